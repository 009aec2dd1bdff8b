-- `account::put_account` meets its contract: before each turn the lines up to its position, which no message covers, are put. Assumes nothing.
use Prim.Native.Nat.{◌-◌}
use mathlib.Core.Path.{◌≡◌}
use lib.ListN.{length}
use Rattle.text.specs.Put.{appended}
use Rattle.reason.specs.Reason.{reason_of}
use Rattle.account.specs.Account.{lines_of}
use Rattle.account.proofs.Ahead.{Ahead}
use Rattle.account.proofs.put_account.Given as goal

abbrev pub invariant-loop-position : goal.invariant-loop-position
invariant-loop-position l = Ahead l.recording l.position × (l.text ≡ appended (lines_of (reason_of l.recording) 0 l.position) l.initial.text)

abbrev pub decreases-loop-position : goal.decreases-loop-position
decreases-loop-position l = length l.recording - l.position
