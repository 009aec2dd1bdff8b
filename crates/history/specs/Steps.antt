-- What the private steps say of each other: no public contract cites these. Definitions only.
use Rattle.std.specs.Prelude.{ℕ, ◌+◌, ◌*◌, ◌≡◌, List, length, Ok}
use Rattle.octets.specs.Parts.{put}
use Rattle.macm.specs.Read.{header_of}
use Rattle.macm.specs.Claimed.{Message}
use Rattle.history.specs.declared.Appearance.{Appearance}
use Rattle.history.specs.Appearances.{appearances_up_to}
use Rattle.history.specs.Breaks.{numbers_of, after_all, begun}
use Rattle.history.specs.Calls.{Call, call_by}

-- some appearances, taken with a history and a list of so many entries: how many entries there are then, and what is left
pub record Takes (ws list : List ℕ) (count : ℕ) (appearances : List Appearance) (r : ℕ) (ws' list' : List ℕ) : Type 0 where
  pub words : ws' ≡ (after_all (begun ws) appearances).words
  pub counted : r ≡ count + length (after_all (begun ws) appearances).entries
  pub listed : list' ≡ put (3 * count) (numbers_of (after_all (begun ws) appearances).entries) list

-- the appearances in all observations of a message, in order
abbrev pub appearances_of : Message → List Appearance
appearances_of c = appearances_up_to c.count c.form (header_of c.form c.bytes).time c.count c.bytes

-- the call of a message by its own header
abbrev pub call_of : Message → List ℕ → List ℕ → Call
call_of c ws list = call_by (Ok (header_of c.form c.bytes, c.count)) c.bytes ws list
