-- `account::put_report` meets its contract. Assumes nothing.
use mathlib.Core.Path.{ap, ◌∙◌}
use native.Mathlib.Omega.{arith}
use lib.ListN.{length}
use borrow.Author.Tests.{le-ltb}
use Rattle.text.specs.Put.{appended}
use Rattle.text.proofs.PutLaws.{appended_join}
use Rattle.account.proofs.put_report.Goals as goal

pub returns : goal.returns
returns c = rw (le-ltb 61440 (length c.args.recording.now) (omega arith)) (c.put_account.ensures ∙ ap (appended _) c.put_all-2.ensures ∙ appended_join _ _ c.args.text.now)
