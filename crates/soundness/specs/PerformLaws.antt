-- How a function comes by what its contract says: of a refusal behind the gate, and at the gate itself. Assumes nothing.
use Rattle.std.specs.Prelude.{◌≡◌, refl, Bool, true, false, cond, not, List, [], ℕ, ◌≤◌, ℤ, length, Option, Some, None}
use Rattle.std.proofs.Common.{sym, ap, ◌∙◌, arith}
use Rattle.std.proofs.lemmas.Option.{none-some, same_Some}
use Rattle.whole.specs.Tests.{fails, holds}
use Rattle.places.specs.declared.Shape.{Shape}
use Rattle.places.specs.Place.{Layout, get}
use Rattle.places.specs.ByAccount.{by_account}
use Rattle.places.specs.Act.{Act, Rule, shape_of, finish, perform_by}
use Rattle.places.specs.ActLaws.{ledger-of, ledger-at, performed_at, turned_down}
use Rattle.rules.specs.declared.Reply.{Reply}
use Rattle.soundness.specs.Sound.{places_ok, sound}
use Rattle.soundness.specs.SoundLaws.{Ledger}
use Rattle.soundness.specs.Perform.{refuse}

-- the reply of a refusal, and the words as they were
pub refused_as : (L : Layout) (s : Shape) (W : List ℤ) (r : Reply) (k : ℕ) (o : Act Reply) → r ≡ (refuse k).answer → o ≡ refuse k → ◌≡◌ {A = Reply × List ℤ} (r, W) (finish L s W o)
refused_as L s W r k o e q = (λ i. (e i, W)) ∙ sym (ap (finish L s W) q)

-- ---- the gate, which every call passes: `b` is what the test of the words gave
module _ (W : List ℤ) {b : Bool} (e : b ≡ sound by_account W) where
  -- the words are not sound: the refusal, and the words as they were
  pub gate_shut : {A : Type 0} (refusal : Act A) (rule : Rule A) {r : A} → not b ≡ true → refusal.puts ≡ [] → r ≡ refusal.answer → ◌≡◌ {A = A × List ℤ} (r, W) (perform_by places_ok refusal by_account W rule)
  gate_shut refusal rule h n q = turned_down places_ok by_account W _ refusal rule n q (fails e h)

  -- they are: their shape can be read
  pub gate_two : not b ≡ false → 2 ≤ length W
  gate_two h = let l = ledger-of places_ok by_account W (holds e h) in let z = l.sized.sized in omega arith

  -- and they are a ledger of that shape
  pub gate_ledger : {s : Shape} → not b ≡ false → s ≡ shape_of W → Ledger by_account s W
  gate_ledger h q = ledger-at places_ok by_account W _ (holds e h) q

-- the same of a gate that gives the shape of a sound ledger: `o` is what it gave
shape_given : (t : Bool) (x s : Shape) → cond t (Some x) None ≡ Some s → (t ≡ true) × (s ≡ x)
shape_given true x s e = (refl, sym (same_Some x s e))
shape_given false x s e = absurd (none-some s e)

none_given : (t : Bool) (x : Shape) → cond t (Some x) None ≡ None → t ≡ false
none_given true x e = absurd (none-some x (sym e))
none_given false x e = refl

module _ (W : List ℤ) {o : Option Shape} (e : o ≡ cond (sound by_account W) (Some (shape_of W)) None) where
  -- the words are not sound: the refusal, and the words as they were
  pub shut : {A : Type 0} (refusal : Act A) (rule : Rule A) {r : A} → o ≡ None → refusal.puts ≡ [] → r ≡ refusal.answer → ◌≡◌ {A = A × List ℤ} (r, W) (perform_by places_ok refusal by_account W rule)
  shut refusal rule h n q = turned_down places_ok by_account W _ refusal rule n q (none_given (sound by_account W) (shape_of W) (sym e ∙ h))

  -- they are a ledger of the shape that was given
  pub opened : {s : Shape} → o ≡ Some s → Ledger by_account s W
  opened {s} h = let g = shape_given (sound by_account W) (shape_of W) s (sym e ∙ h) in ledger-at places_ok by_account W _ g.0 g.1

-- so what the function behind the gate gave, by a rule that is the contract's, is what the contract says
pub gate_open : {A : Type 0} (refusal : Act A) (given rule : Rule A) (s : Shape) (W : List ℤ) {Z : List ℤ} {r : A} →
    given ≡ rule → Ledger by_account s W → ◌≡◌ {A = A × List ℤ} (r, Z) (finish by_account s W (given s (get by_account s W))) → ◌≡◌ {A = A × List ℤ} (r, Z) (perform_by places_ok refusal by_account W rule)
gate_open refusal given rule s W q l h =
    h ∙ ap (λ (p : Rule _). finish by_account s W (p s (get by_account s W))) q ∙ sym (performed_at places_ok by_account W refusal rule s l)
