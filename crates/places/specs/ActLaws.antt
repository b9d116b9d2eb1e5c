-- What `sound_by` and `perform_by` say, how a function comes by them, and what a rule puts: nothing, or its one list, where its tests hold.
-- Assumes nothing.
use Rattle.std.specs.Prelude.{◌≡◌, refl, List, [], Bool, true, false, cond, ◌&&◌, ℕ, ◌≤◌, ◌<◌, eqb, ℤ, pos, nat_abs, length, get_or}
use Rattle.std.proofs.Common.{sym, subst, ◌∙◌, arith}
use Rattle.std.proofs.Math.Path.{ap}
use borrow.Author.Tests.{eqb-true, ltb-true, ne_eqb, lt-ltb, eq-eqb}
use Rattle.std.proofs.Math.Dec.{ltb}
use Rattle.whole.specs.Number.{between, unless}
use Rattle.whole.specs.Tests.{both, none, in-range}
use Rattle.places.specs.declared.Shape.{Shape}
use Rattle.places.specs.Place.{words_of, Layout, Put, get, puts}
use Rattle.places.specs.PlaceLaws.{Sized}
use Rattle.places.specs.Act.{stated_count, most_accounts, most_products, shape_of, shape_ok, Test, sound_by, Act, Rule, finish, perform_by}

pub stated_count_le : (b : ℕ) (z : ℤ) → stated_count b z ≤ b
stated_count_le b z = go (between (pos 1) (pos b) z) refl
  where
    go : (t : Bool) → between (pos 1) (pos b) z ≡ t → cond t (nat_abs z) 0 ≤ b
    go true e = let h = in-range 1 b z e in omega arith
    go false e = omega arith

-- A list that is a sound ledger of the shape s, as facts: what the functions behind the gate ask, and do not test again.
pub record LedgerBy (ok : Test) (L : Layout) (s : Shape) (W : List ℤ) : Type 0 where
  pub some : 0 < s.n
  pub some' : 0 < s.p
  pub sized : Sized s W
  pub shaped : shape_of W ≡ s
  pub places : ok s (get L s W) ≡ true

module _ (ok : Test) (L : Layout) where
  pub sized : (W : List ℤ) → sound_by ok L W ≡ true → length W ≡ words_of (shape_of W)
  unfolding sound_by
  sized W e =
      let h = both (shape_ok W (shape_of W)) (ok (shape_of W) (get L (shape_of W) W)) e in
      eqb-true (length W) (words_of (shape_of W)) (both (ltb 0 (shape_of W).n && ltb 0 (shape_of W).p) (eqb (length W) (words_of (shape_of W))) h.0).1

  -- the places of a sound list pass the test
  pub places-ok : (W : List ℤ) → sound_by ok L W ≡ true → ok (shape_of W) (get L (shape_of W) W) ≡ true
  unfolding sound_by
  places-ok W e = (both (shape_ok W (shape_of W)) (ok (shape_of W) (get L (shape_of W) W)) e).1

  -- words of the same length and shape, whose places pass the test, are sound too
  pub sound_again : (W W' : List ℤ) → sound_by ok L W ≡ true → shape_of W' ≡ shape_of W → length W' ≡ length W → ok (shape_of W) (get L (shape_of W) W') ≡ true → sound_by ok L W' ≡ true
  unfolding sound_by
  sound_again W W' e q l f =
      ap (λ s. shape_ok W' s && ok s (get L s W')) q ∙ rw (l, (both (shape_ok W (shape_of W)) (ok (shape_of W) (get L (shape_of W) W)) e).0) f

  -- what is performed on a sound list
  pub performed : {A : Type 0} (W : List ℤ) (refusal : Act A) (r : Rule A) → sound_by ok L W ≡ true → perform_by ok refusal L W r ≡ finish L (shape_of W) W (r (shape_of W) (get L (shape_of W) W))
  unfolding perform_by
  performed W refusal r e = rw e

  -- and on one that is not
  pub not_performed : {A : Type 0} (W : List ℤ) (refusal : Act A) (r : Rule A) → sound_by ok L W ≡ false → perform_by ok refusal L W r ≡ finish L (shape_of W) W refusal
  unfolding perform_by
  not_performed W refusal r e = rw e

-- ---- what a rule puts: nothing, or its one list, where its tests hold

pub unless-puts : {A : Type 0} (P : List Put → Type 0) (b : Bool) (refusal o : Act A) → P refusal.puts → (b ≡ true → P o.puts) → P (unless b refusal o).puts
unless-puts P true refusal o z h = h refl
unless-puts P false refusal o z h = z

pub unless-same : {A : Type 0} (b : Bool) (refusal o o' : Act A) → (b ≡ true → o ≡ o') → unless b refusal o ≡ unless b refusal o'
unless-same true refusal o o' h = h refl
unless-same false refusal o o' h = refl

module _ (ok : Test) (L : Layout) where
  -- soundness by the shape that a function has read
  pub sound-at : (W : List ℤ) (s : Shape) → s ≡ shape_of W → sound_by ok L W ≡ (shape_ok W s && ok s (get L s W))
  unfolding sound_by
  sound-at W s e = ap (λ t. shape_ok W t && ok t (get L t W)) (sym e)

  -- a list that has not the length of its shape is no ledger
  pub not-sized : (W : List ℤ) → (length W ≡ words_of (shape_of W) → ⊥) → sound_by ok L W ≡ false
  unfolding sound_by
  not-sized W ne = rw (none (ltb 0 (shape_of W).n && ltb 0 (shape_of W).p) (eqb (length W) (words_of (shape_of W))) (ne_eqb (length W) (words_of (shape_of W)) ne))

  pub ledger-of : (W : List ℤ) → sound_by ok L W ≡ true → LedgerBy ok L (shape_of W) W
  unfolding sound_by
  ledger-of W e =
      let h = both (shape_ok W (shape_of W)) (ok (shape_of W) (get L (shape_of W) W)) e in
      let k = both (ltb 0 (shape_of W).n && ltb 0 (shape_of W).p) (eqb (length W) (words_of (shape_of W))) h.0 in
      let m = both (ltb 0 (shape_of W).n) (ltb 0 (shape_of W).p) k.0 in
      record {
        some = ltb-true 0 (shape_of W).n m.0;
        some' = ltb-true 0 (shape_of W).p m.1;
        sized = record {
          few = stated_count_le most_accounts (get_or W 0 (pos 0));
          few' = stated_count_le most_products (get_or W 1 (pos 0));
          sized = eqb-true (length W) (words_of (shape_of W)) k.1;
        };
        shaped = refl;
        places = h.1;
      }

  pub ledger-at : (W : List ℤ) (s : Shape) → sound_by ok L W ≡ true → s ≡ shape_of W → LedgerBy ok L s W
  ledger-at W s e h = subst (λ t. LedgerBy ok L t W) (sym h) (ledger-of W e)

  -- and back: such a list is sound
  pub sound-of : (s : Shape) (W : List ℤ) → LedgerBy ok L s W → sound_by ok L W ≡ true
  sound-of s W l =
      sound-at W s (sym l.shaped)
      ∙ rw (lt-ltb 0 s.n l.some, lt-ltb 0 s.p l.some', eq-eqb (length W) (words_of s) l.sized.sized) l.places

  -- what is performed on a ledger whose shape a function has read
  pub performed_at : {A : Type 0} (W : List ℤ) (refusal : Act A) (r : Rule A) (s : Shape) → LedgerBy ok L s W → perform_by ok refusal L W r ≡ finish L s W (r s (get L s W))
  unfolding perform_by
  performed_at W refusal r s l = rw (sound-of s W l) (ap (λ t. finish L t W (r t (get L t W))) l.shaped)

  -- a list that is not sound: the refusal, and the list as it was
  pub turned_down : {A : Type 0} (W : List ℤ) (r : A) (refusal : Act A) (q : Rule A) → refusal.puts ≡ [] → r ≡ refusal.answer → sound_by ok L W ≡ false
      → ◌≡◌ {A = A × List ℤ} (r, W) (perform_by ok refusal L W q)
  unfolding perform_by
  turned_down W r refusal q n e f = rw f (λ i. (e i, puts L (shape_of W) W (sym n i)))
