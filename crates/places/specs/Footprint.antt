-- Footprints: which places a rule may put, and which it may see. Two rules commute on a sound ledger where neither puts what
-- the other sees. Over any layout, any answers, any test of soundness and any sets of places; no rule of a ledger is named here.
use Rattle.std.specs.Prelude.{◌≡◌, ◌≢◌, List, true, ℕ, ◌≤◌, ◌<◌, ℤ, pos, get_or}
use Rattle.std.proofs.Common.{sym, ap, subst, ◌∙◌, arith}
use Rattle.places.specs.declared.Shape.{Shape}
use Rattle.places.specs.Place.{Place, head, Has, View, Layout, Put, get, puts}
use Rattle.places.specs.PlaceLaws.{Each, each_map, get-puts, puts_comm, length-puts}
use Rattle.places.specs.Act.{stated_count, most_accounts, most_products, shape_of, Test, sound_by, Act, Rule, finish, perform_by}
use Rattle.places.specs.ActLaws.{sound_again, performed}

-- a set of places that may be put, and a set of places that may be seen; the counts n and p are never put
pub record Footprint : Type 1 where
  pub Puts : Place → Type 0
  pub Sees : Place → Type 0
  pub seen : (q : Place) → Puts q → Sees q
  pub body : (k : ℕ) → Puts (head k) → 2 ≤ k

-- neither puts what the other sees
abbrev pub Apart : Footprint → Footprint → Type 0
Apart F G = (q : Place) → (F.Puts q → G.Sees q → ⊥) × (G.Puts q → F.Sees q → ⊥)

-- puts at places of the ledger that are among the footprint's; puts at places that it does not see
abbrev pub Inside : Shape → Footprint → List Put → Type 0
Inside s F = Each (λ q. Has s q × F.Puts q)

abbrev pub Outside : Shape → Footprint → List Put → Type 0
Outside s F = Each (λ q. Has s q × (F.Sees q → ⊥))

-- a view that differs from another only where the footprint puts
abbrev pub Differ : Shape → Footprint → View → View → Type 0
Differ s F g g' = (q : Place) → Has s q → (F.Puts q → ⊥) → g' q ≡ g q

-- what a rule does at W, and the words after it
abbrev pub acts : {A : Type 0} → Layout → List ℤ → Rule A → Act A
acts L W r = r (shape_of W) (get L (shape_of W) W)

abbrev pub words_after : {A : Type 0} → Layout → List ℤ → Rule A → List ℤ
words_after L W r = puts L (shape_of W) W (acts L W r).puts

-- At W the rule r keeps to the footprint F: it puts nothing elsewhere, leaves a sound ledger, and does the same whatever is put
-- where it does not look.
pub record KeepsTo {A : Type 0} (ok : Test) (L : Layout) (W : List ℤ) (F : Footprint) (r : Rule A) : Type 0 where
  pub inside : Inside (shape_of W) F (acts L W r).puts
  pub sound_after : sound_by ok L (words_after L W r) ≡ true
  pub blind : (us : List Put) → Outside (shape_of W) F us → r (shape_of W) (get L (shape_of W) (puts L (shape_of W) W us)) ≡ acts L W r

-- Each of two rules answers after the other as it would alone, and the words are the same in either order.
pub record Commute {A B : Type 0} (ok : Test) (L : Layout) (W : List ℤ) (nay : Act A) (q : Rule A) (nay' : Act B) (r : Rule B) : Type 0 where
  pub first : (perform_by ok nay L (perform_by ok nay' L W r).1 q).0 ≡ (perform_by ok nay L W q).0
  pub second : (perform_by ok nay' L (perform_by ok nay L W q).1 r).0 ≡ (perform_by ok nay' L W r).0
  pub words : (perform_by ok nay' L (perform_by ok nay L W q).1 r).1 ≡ (perform_by ok nay L (perform_by ok nay' L W r).1 q).1

-- ---- laws of puts inside and outside

-- what is put inside F is not seen by a G that is apart from it
outside : (s : Shape) (F G : Footprint) → ((q : Place) → F.Puts q → G.Sees q → ⊥) → (us : List Put) → Inside s F us → Outside s G us
outside s F G d = each_map (λ q. Has s q × F.Puts q) (λ q. Has s q × (G.Sees q → ⊥)) (λ q h. (h.0, d q h.1))

module _ (L : Layout) (W : List ℤ) where
  abbrev s : Shape
  s = shape_of W

  -- a place that is seen is as it was, where puts are outside
  pub sees : (F : Footprint) (us : List Put) → Outside s F us → (q : Place) → Has s q → F.Sees q → get L s (puts L s W us) q ≡ get L s W q
  sees F us d q h k =
      get-puts L s q h us (each_map (λ r. Has s r × (F.Sees r → ⊥)) (λ r. Has s r × (q ≢ r)) (λ r b. (b.0, λ e. b.1 (subst F.Sees e k))) us d) W

  -- a place that is not put is as it was
  pub differ : (F : Footprint) (us : List Put) → Inside s F us → Differ s F (get L s W) (get L s (puts L s W us))
  differ F us i q h k =
      get-puts L s q h us (each_map (λ r. Has s r × F.Puts r) (λ r. Has s r × (q ≢ r)) (λ r b. (b.0, λ e. k (subst F.Puts (sym e) b.1))) us i) W

  -- the counts stay
  pub shape-kept : (F : Footprint) (us : List Put) → Inside s F us → shape_of (puts L s W us) ≡ s
  shape-kept F us i d = record { n = stated_count most_accounts (word 0 (omega arith) d); p = stated_count most_products (word 1 (omega arith) d) }
    where
      word : (k : ℕ) → k < 2 → get_or (puts L s W us) k (pos 0) ≡ get_or W k (pos 0)
      word k b =
          subst (λ i. get_or (puts L s W us) i (pos 0) ≡ get_or W i (pos 0)) (L.first s k)
          (differ F us i (head k) (omega arith) (λ h. let z : 2 ≤ k = F.body k h in omega arith))

module _ (ok : Test) (L : Layout) (W : List ℤ) (e : sound_by ok L W ≡ true) where
  -- puts inside a footprint leave a sound ledger, if the places pass the test after them
  pub sound-kept : (F : Footprint) (us : List Put) → Inside (shape_of W) F us → ok (shape_of W) (get L (shape_of W) (puts L (shape_of W) W us)) ≡ true
      → sound_by ok L (puts L (shape_of W) W us) ≡ true
  sound-kept F us i f = sound_again ok L W (puts L (shape_of W) W us) e (shape-kept L W F us i) (length-puts L (shape_of W) us W) f

  -- ---- what a performed rule leaves

  module _ {A : Type 0} (refusal : Act A) (F : Footprint) (r : Rule A) (o : KeepsTo ok L W F r) where
    pub after-sound : sound_by ok L (perform_by ok refusal L W r).1 ≡ true
    after-sound = rw (performed ok L W refusal r e) o.sound_after

    pub after-shape : shape_of (perform_by ok refusal L W r).1 ≡ shape_of W
    after-shape = rw (performed ok L W refusal r e) (shape-kept L W F (acts L W r).puts o.inside)

    -- a word of it, by the shape before; one that is not put is as it was
    pub after-word : (q : Place) → get L (shape_of (perform_by ok refusal L W r).1) (perform_by ok refusal L W r).1 q ≡ get L (shape_of W) (words_after L W r) q
    after-word q =
        ap (λ z. get L (shape_of z.1) z.1 q) (performed ok L W refusal r e)
        ∙ ap (λ z. get L z (words_after L W r) q) (shape-kept L W F (acts L W r).puts o.inside)

    pub after_same : (q : Place) → Has (shape_of W) q → (F.Puts q → ⊥) → get L (shape_of (perform_by ok refusal L W r).1) (perform_by ok refusal L W r).1 q ≡ get L (shape_of W) W q
    after_same q h k = after-word q ∙ differ L W F (acts L W r).puts o.inside q h k

  -- ---- r after q

  second-of : {A B : Type 0} (nay : Act A) (nay' : Act B) (F G : Footprint) (q : Rule A) (r : Rule B) → KeepsTo ok L W F q → KeepsTo ok L W G r → Apart F G
      → perform_by ok nay' L (perform_by ok nay L W q).1 r ≡ finish L (shape_of W) (words_after L W q) (acts L W r)
  second-of nay nay' F G q r o o' d =
      let us = (acts L W q).puts in
      ap (λ z. perform_by ok nay' L z.1 r) (performed ok L W nay q e)
      ∙ performed ok L (words_after L W q) nay' r o.sound_after
      ∙ ap (λ z. finish L z (words_after L W q) (r z (get L z (words_after L W q)))) (shape-kept L W F us o.inside)
      ∙ ap (finish L (shape_of W) (words_after L W q)) (o'.blind us (outside (shape_of W) F G (λ p. (d p).0) us o.inside))

pub apart_sym : (F G : Footprint) → Apart F G → Apart G F
apart_sym F G d q = ((d q).1, (d q).0)

-- puts of two footprints that are apart are at places that all differ
puts_apart : (s : Shape) (F G : Footprint) → Apart F G → (us vs : List Put) → Inside s F us → Inside s G vs → Each (λ x. Has s x × Each (λ y. Has s y × (x ≢ y)) vs) us
puts_apart s F G d us vs i j =
    each_map (λ x. Has s x × F.Puts x) (λ x. Has s x × Each (λ y. Has s y × (x ≢ y)) vs)
    (λ x h. (h.0, each_map (λ y. Has s y × G.Puts y) (λ y. Has s y × (x ≢ y)) (λ y k. (k.0, λ p. (d y).1 k.1 (subst F.Sees p (F.seen x h.1)))) vs j))
    us i

-- THE LAW: rules whose footprints are apart commute on a sound ledger.
pub commute : {A B : Type 0} (ok : Test) (L : Layout) (W : List ℤ) → sound_by ok L W ≡ true → (nay : Act A) (nay' : Act B) (F G : Footprint) (q : Rule A) (r : Rule B)
    → KeepsTo ok L W F q → KeepsTo ok L W G r → Apart F G → Commute ok L W nay q nay' r
commute ok L W e nay nay' F G q r o o' d =
    let a = second-of ok L W e nay nay' F G q r o o' d in
    let b = second-of ok L W e nay' nay G F r q o' o (apart_sym F G d) in
    record {
      first = ap (λ z. z.0) b ∙ sym (ap (λ z. z.0) (performed ok L W nay q e));
      second = ap (λ z. z.0) a ∙ sym (ap (λ z. z.0) (performed ok L W nay' r e));
      words =
          ap (λ z. z.1) a
          ∙ puts_comm L (shape_of W) (acts L W q).puts (acts L W r).puts (puts_apart (shape_of W) F G d (acts L W q).puts (acts L W r).puts o.inside o'.inside) W
          ∙ sym (ap (λ z. z.1) b);
    }
