-- A pass over accounts, products or dues as one list of puts, every word of it computed from the view at the start.
-- The code computes each word from the words as they stand. The two agree where what is still to be read has not been written:
-- `Sees` says which places a value depends on, `Off` that puts stand elsewhere, and `then_puts`, `pass_more` join a part to what was done.
-- `turns` is another thing: parts that are each made from the words as they stand.
use Rattle.std.specs.Prelude.{◌≡◌, refl, ◌≢◌, List, [], ◌∷◌, ◌++◌, Bool, true, false, ℕ, zero, suc, ◌+◌, ◌<◌, ℤ, length}
use Rattle.std.proofs.Common.{sym, ap, ap₂, subst, ◌∙◌, inl, inr, add-one, arith}
use Rattle.whole.specs.Tests.{clash}
use Rattle.places.specs.declared.Shape.{Shape}
use Rattle.places.specs.Place.{Place, Has, View, Layout, Put, ◌≔◌, words_of, get, puts, each}
use Rattle.places.specs.PlaceLaws.{Sized, Each, each_map, get-put-same, get-puts, length-puts, puts-append}

-- two views that say the same at the places of P
abbrev pub Agree : Shape → (Place → Bool) → View → View → Type 0
Agree s P g g' = (q : Place) → Has s q → P q ≡ true → g q ≡ g' q

-- a value that depends only on what stands at the places of P
abbrev pub Sees : {A : Type 0} → Shape → (Place → Bool) → (View → A) → Type 0
Sees s P F = (g g' : View) → Agree s P g g' → F g ≡ F g'

-- puts at places of the shape, none of them of P
abbrev pub Off : Shape → (Place → Bool) → List Put → Type 0
Off s P us = Each (λ q. Has s q × (P q ≡ false)) us

module _ (L : Layout) (s : Shape) (W X : List ℤ) (us : List Put) (e : X ≡ puts L s W us) where
  pub length-of : length X ≡ length W
  length-of = ap length e ∙ length-puts L s us W

  pub sized_of : Sized s W → Sized s X
  sized_of z = record { few = z.few; few' = z.few'; sized = length-of ∙ z.sized }

  -- then more puts
  pub more-puts : (Y : List ℤ) (vs : List Put) → Y ≡ puts L s X vs → Y ≡ puts L s W (us ++ vs)
  more-puts Y vs d = d ∙ ap (λ Z. puts L s Z vs) e ∙ sym (puts-append L s us vs W)

module _ (L : Layout) (s : Shape) (P : Place → Bool) where
  -- what puts elsewhere leave as it was
  pub unseen : (us : List Put) → Off s P us → (W : List ℤ) → Agree s P (get L s (puts L s W us)) (get L s W)
  unseen us h W q hq t = get-puts L s q hq us (each_map (λ r. Has s r × (P r ≡ false)) (λ r. Has s r × (q ≢ r)) (λ r k. (k.0, λ e. clash t (ap P e ∙ k.1))) us h) W

  pub agrees : (W X : List ℤ) (us : List Put) → X ≡ puts L s W us → Off s P us → Agree s P (get L s X) (get L s W)
  agrees W X us e h q hq t = ap (λ Y. get L s Y q) e ∙ unseen us h W q hq t

  -- after the puts us, a value that sees none of them is still the one of the start
  pub still : {A : Type 0} (F : View → A) → Sees s P F → (W X : List ℤ) (us : List Put) → X ≡ puts L s W us → Off s P us → F (get L s X) ≡ F (get L s W)
  still F sees W X us e h = sees (get L s X) (get L s W) (agrees W X us e h)

  -- then puts that are computed from the words as they stand
  pub then_puts : (F : View → List Put) → Sees s P F → (W X Y : List ℤ) (us : List Put) → X ≡ puts L s W us → Off s P us → Y ≡ puts L s X (F (get L s X))
      → Y ≡ puts L s W (us ++ F (get L s W))
  then_puts F sees W X Y us e h d =
      d ∙ ap₂ (puts L s) e (still F sees W X us e h) ∙ sym (puts-append L s us (F (get L s W)) W)

  -- one more turn of a pass
  pub pass_more : (F : View → ℕ → List Put) (i : ℕ) → Sees s P (λ g. F g i) → (W X Y : List ℤ) → X ≡ puts L s W (each i (F (get L s W)))
      → Off s P (each i (F (get L s W))) → Y ≡ puts L s X (F (get L s X) i) → Y ≡ puts L s W (each (i + 1) (F (get L s W)))
  pass_more F i sees W X Y e h d = rw add-one (then_puts (λ g. F g i) sees W X Y (each i (F (get L s W))) e h d)

-- ---- what a pass leaves at a place that one of its turns puts, and no later one
module _ (L : Layout) (s : Shape) (q : Place) (hq : Has s q) (v : ℤ) where
  -- puts that leave v at q, whatever the words before them
  abbrev pub Leaves : List Put → Type 0
  Leaves us = (X : List ℤ) → length X ≡ words_of s → get L s (puts L s X us) q ≡ v

  -- puts at other places
  abbrev pub Elsewhere : List Put → Type 0
  Elsewhere us = Each (λ r. Has s r × (q ≢ r)) us

  pub leaves_put : Leaves ((q ≔ v) ∷ [])
  leaves_put X z = get-put-same L s X q v z hq

  pub leaves_later : (us vs : List Put) → Leaves us → Elsewhere vs → Leaves (us ++ vs)
  leaves_later us vs h k X z = ap (λ Y. get L s Y q) (puts-append L s us vs X) ∙ get-puts L s q hq vs k (puts L s X us) ∙ h X z

  pub leaves_after : (us vs : List Put) → Leaves vs → Leaves (us ++ vs)
  leaves_after us vs h X z = ap (λ Y. get L s Y q) (puts-append L s us vs X) ∙ h (puts L s X us) (length-puts L s us X ∙ z)

  pub leaves_each : (k : ℕ) (F : ℕ → List Put) (i : ℕ) → i < k → Leaves (F i) → ((m : ℕ) → m < k → i < m → Elsewhere (F m)) → Leaves (each k F)
  leaves_each zero F i h t o = absurd (omega arith)
  leaves_each (suc k) F i h t o =
      elim (native.Mathlib.Nat.eq-or-lt_of_le h) as (λ _. Leaves (each k F ++ F k)) [
        | inl e ↦ leaves_after (each k F) (F k) (subst (λ m. Leaves (F m)) (native.Mathlib.Nat.suc_inj e) t)
        | inr l ↦ leaves_later (each k F) (F k) (leaves_each k F i (omega arith) t (λ m a b. o m (omega arith) b)) (o k (omega arith) (omega arith))
      ]

-- ---- turns, each made from the words as they stand

abbrev pub turns : Layout → Shape → (View → ℕ → List Put) → ℕ → List ℤ → List ℤ
turns L s F zero W = W
turns L s F (suc i) W = puts L s (turns L s F i W) (F (get L s (turns L s F i W)) i)

module _ (L : Layout) (s : Shape) (F : View → ℕ → List Put) (W : List ℤ) where
  pub length-turns : (k : ℕ) → length (turns L s F k W) ≡ length W
  length-turns zero = refl
  length-turns (suc k) = length-puts L s (F (get L s (turns L s F k W)) k) (turns L s F k W) ∙ length-turns k

  -- what no turn puts is as it was
  pub turns_unseen : (P : Place → Bool) (k : ℕ) → ((i : ℕ) → i < k → (g : View) → Off s P (F g i)) → Agree s P (get L s (turns L s F k W)) (get L s W)
  turns_unseen P zero h q hq t = refl
  turns_unseen P (suc k) h q hq t =
      let X = turns L s F k W in
      unseen L s P (F (get L s X) k) (h k (omega arith) (get L s X)) X q hq t ∙ turns_unseen P k (λ i l. h i (omega arith)) q hq t
