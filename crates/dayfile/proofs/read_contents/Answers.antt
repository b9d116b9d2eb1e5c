-- Every line of the table is read where the one before it ended, and that is what `contents_of` says.
use mathlib.Core.Path.{◌≡◌, ◌∙◌}
use mathlib.Core.List.{List}
use Prim.Native.Nat.{ℕ}
use denote.Ref.{Bor}
use Rattle.dayfile.specs.Table.{past_header, products_count, accounts_count, positions_count, calls_count, past_end}
use Rattle.dayfile.specs.declared.reader.Reader.{Reader}
use Rattle.dayfile.proofs.ContentsLaws.{contents_are}
use Rattle.dayfile.proofs.read_contents.Goals as goal

-- what a view at n of the text s reads is what stands at n in s
there : {X : Type 0} (line : List ℕ → ℕ → X) (s : Bor (List ℕ)) (r : Reader) (n : ℕ) (x : X) → (r.text ≡ s) × (r.at ≡ n) → x ≡ line r.text.now r.at → x ≡ line s.now n
there line s r n x stands is = is ∙ (λ i. line (stands.0 i).now (stands.1 i))

-- a view that was moved is of the same text
follow : (s : Bor (List ℕ)) (r r' : Reader) (n : ℕ) → r.text ≡ s → (r'.text ≡ r.text) × (r'.at ≡ n) → (r'.text ≡ s) × (r'.at ≡ n)
follow s r r' n same moved = (moved.0 ∙ same, moved.1)

pub returns : goal.returns
returns c =
    let s = c.args.text in
    let r = c.new-r.result in
    let e = c.new-r.ensures in
    let p = c.products-p in
    let n = c.accounts-n in
    let m = c.positions-m in
    let k = c.calls-c in
    contents_are s.now c.header-first.result p.result n.result m.result k.result c.end-end.result c.contents_of.result
    (there past_header s r 0 _ e c.header-first.ensures)
    (there products_count s c.moved.result _ _ (follow s r _ _ e.0 c.moved.ensures) p.ensures)
    (there accounts_count s c.moved-2.result _ _ (follow s r _ _ e.0 c.moved-2.ensures) n.ensures)
    (there positions_count s c.moved-3.result _ _ (follow s r _ _ e.0 c.moved-3.ensures) m.ensures)
    (there calls_count s c.moved-4.result _ _ (follow s r _ _ e.0 c.moved-4.ensures) k.ensures)
    (there past_end s c.moved-5.result _ _ (follow s r _ _ e.0 c.moved-5.ensures) c.end-end.ensures)
    c.contents_of.ensures
