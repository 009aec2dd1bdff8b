-- What a host that lends its state finds after a stream call, and one that lends a history after a call for breaks. Definitions only.
use Rattle.std.specs.Prelude.{ℕ, ◌≡◌, List}
use Rattle.stream.specs.declared.State.{State}
use Rattle.stream.specs.Reader.{Call}
use Rattle.history.specs.Calls as history
use Rattle.words.specs.declared.AnswerWords.{AnswerWords}
use Rattle.words.specs.declared.ListedWords.{ListedWords}
use Rattle.words.specs.Words.{answer_words, listed_words}

-- the state behind its reference, the answer to a piece of so many bytes, the window and the output
pub record Finds (c : Call) (offered : ℕ) (s : State) (a : AnswerWords) (w o : List ℕ) : Type 0 where
  pub state : s ≡ c.state
  pub answer : a ≡ answer_words c.answer offered
  pub window : w ≡ c.window
  pub output : o ≡ c.output

-- the answer, the history and the list
pub record Lists (c : history.Call) (a : ListedWords) (h l : List ℕ) : Type 0 where
  pub answer : a ≡ listed_words c.answer
  pub words : h ≡ c.words
  pub list : l ≡ c.list
