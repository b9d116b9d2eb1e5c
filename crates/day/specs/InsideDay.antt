-- Words for the contract of the private function `do_call`. No reader of the entry point's contract needs them.
use Rattle.std.specs.Prelude.{◌≡◌, List, ℕ, ◌+◌, ℤ, length, get_or}
use Rattle.std.proofs.lemmas.List.Edits.{sets}
use Rattle.dayfile.specs.CallLines.{call_at, call_of}
use Rattle.calls.specs.Ledger.{LedgerRules}
use Rattle.day.specs.Sheet.{reply_line}
use Rattle.rules.specs.declared.Reply.{Reply}
use Rattle.day.specs.declared.Turn.{Turn}

-- what the call at a place answers and leaves
abbrev pub done_at : LedgerRules → (text : List ℕ) (p at : ℕ) → List ℤ → Reply × List ℤ
done_at l text p at words = l.perform (call_of p (get_or text at 0) (call_at text p at).values) words

-- what one turn of the second pass gives
pub record Turned (l : LedgerRules) (text : List ℕ) (p at : ℕ) (words : List ℤ) (out : List ℕ) (put : ℕ) (r : Turn) (words' : List ℤ) (out' : List ℕ) : Type 0 where
  pub at_is : r.at ≡ (call_at text p at).next
  pub put_is : r.put ≡ put + length (reply_line (done_at l text p at words).0)
  pub words_are : words' ≡ (done_at l text p at words).1
  pub out_is : out' ≡ sets out put (reply_line (done_at l text p at words).0)
