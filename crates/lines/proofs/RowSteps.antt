-- The rows of all observations of a message are those of the observations one by one, by their indexes. Assumes nothing.
use Rattle.std.specs.Prelude.{Result, Ok, Err}
use Prim.Native.Nat.{ℕ, zero, suc}
use mathlib.Core.Path.{◌≡◌, refl, sym, ap, ◌∙◌}
use mathlib.Core.List.{List, [], ◌∷◌, ◌++◌}
use native.Mathlib.Omega.{arith}
use Rattle.macm.specs.declared.Form.{Form}
use Rattle.macm.specs.declared.Observation.{Observation}
use Rattle.macm.specs.Check.{shape_of}
use Rattle.macm.specs.Read.{header_of, head_by, claimed_head, observed_as}
use Rattle.macm.specs.Claimed.{Message, Sized, claimed_by, claimed_of, observations_of}
use Rattle.refusal.specs.declared.Refusal.{Refusal}
use Rattle.text.specs.declared.Text.{Text}
use Rattle.text.specs.Put.{appended}
use Rattle.text.proofs.PutLaws.{appended_none, appended_join}
use Rattle.macm.proofs.Iterates.{each, each_next, each_read, each_first}
use Rattle.lines.specs.Rows.{head_text, observation_text, row_text, rows_up_to, head_rows, rows_text}

rows_read : (k : ℕ) (head : List ℕ) (f : Form) (n : ℕ) (m : List ℕ) → rows_up_to k head f n m ≡ each_read (row_text head f) k f n m
unfolding rows_up_to
rows_read zero head f n m = refl
rows_read (suc k) head f n m = ap (λ r. r ++ row_text head f (observed_as f n m k)) (rows_read k head f n m)

-- the rows of some observations in order, put: none, one more, and all of a message
unfoldable pub rows_of : List ℕ → Form → List Observation → List ℕ
rows_of head f os = each (λ o. head ++ observation_text f o) os

pub rows_none : (head : List ℕ) (f : Form) (text : Text) → text ≡ appended (rows_of head f []) text
unfolding rows_of
rows_none head f text = appended_none text

pub rows_more : (head : List ℕ) (f : Form) (os : List Observation) (o : Observation) (text : Text)
    → appended (head ++ observation_text f o) (appended (rows_of head f os) text) ≡ appended (rows_of head f (os ++ (o ∷ []))) text
unfolding rows_of
rows_more head f os o text =
    let row : Observation → List ℕ = λ o. head ++ observation_text f o in
    appended_join (each row os) (row o) text ∙ ap (λ t. appended t text) (sym (each_next row os o))

pub rows_all : (head : List ℕ) (c : Message) → Sized c → rows_of head c.form (observations_of c) ≡ rows_up_to c.count head c.form c.count c.bytes
unfolding rows_of
rows_all head c long = sym (rows_read c.count head c.form c.count c.bytes ∙ each_first (row_text head c.form) c.form c.count c.bytes long c.count (omega arith))

-- of bytes that claim a message, they are by its header
abbrev rows_by : ℕ → Result Message Refusal → List ℕ
rows_by position (Err r) = []
rows_by position (Ok c) = rows_up_to c.count (head_text position (header_of c.form c.bytes)) c.form c.count c.bytes

pub rows_claimed : (position : ℕ) (m head : List ℕ) (c : Message) → claimed_of m ≡ Ok c → head ≡ head_text position (header_of c.form c.bytes) → rows_up_to c.count head c.form c.count c.bytes ≡ rows_text position m
unfolding claimed_head claimed_by head_by header_of
rows_claimed position m head c e h = ap (λ t. rows_up_to c.count t c.form c.count c.bytes) h ∙ sym (ap (rows_by position) e) ∙ go (shape_of m)
  where
    go : (s : Result (Form × ℕ) Refusal) → rows_by position (claimed_by s m) ≡ head_rows position (head_by s m) m
    go (Err r) = refl
    go (Ok (f, n)) = refl
