-- The lines of the breaks of lock, one a break. Definitions only.
use Rattle.std.specs.Prelude.{ℕ, zero, suc, ◌+◌, ◌*◌, ◌≡◌, cond, List, [], ◌++◌, eqb, get_or, Result, Ok, Err}
use Rattle.text.specs.Word.{word}
use Rattle.text.specs.Columns.{space, number_text}
use Rattle.text.specs.declared.Text.{Text}
use Rattle.text.specs.Put.{appended}
use Rattle.history.specs.Breaks.{clock_back}
use Rattle.history.specs.Calls.{Call}
use Rattle.refusal.specs.declared.Refusal.{Refusal}

-- which of the two
abbrev pub which_text : ℕ → List ℕ
which_text which = cond (eqb which clock_back) (word "clock-back\n") (word "new-lock\n")

-- position of the message, SID, time, which of the two
abbrev pub break_text : ℕ → ℕ → ℕ → ℕ → List ℕ
break_text position sid time which = number_text position space ++ (number_text sid space ++ (number_text time space ++ which_text which))

-- the lines of the first k breaks of a list, three numbers each
unfoldable pub breaks_up_to : ℕ → ℕ → List ℕ → List ℕ
breaks_up_to zero position list = []
breaks_up_to (suc k) position list = breaks_up_to k position list ++ break_text position (get_or list (3 * k) 0) (get_or list (3 * k + 1) 0) (get_or list (3 * k + 2) 0)

abbrev pub listed_text : ℕ → Result ℕ Refusal → List ℕ → List ℕ
listed_text position (Err r) list = []
listed_text position (Ok n) list = breaks_up_to n position list

-- the lines that a call for the message at a position gives
abbrev pub breaks_text : ℕ → Call → List ℕ
breaks_text position c = listed_text position c.answer c.list

-- they are put, and the history and the list are left as the call leaves them
pub record Prints (before : Text) (position : ℕ) (c : Call) (after : Text) (ws list : List ℕ) : Type 0 where
  pub text : after ≡ appended (breaks_text position c) before
  pub words : ws ≡ c.words
  pub listed : list ≡ c.list
