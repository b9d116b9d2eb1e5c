-- `sums_of` meets its contract: the sums of the figures passed, four more a turn. Assumes nothing.
use Rattle.std.proofs.Common.{◌≡◌, ◌∙◌, [], refl, sym, ap, ℕ, zero, suc, ◌+◌, ◌*◌, ◌/◌, ◌<◌, ◌≤◌, List, ℤ, length, get_or, arith, pos, w64, to_z, of_z, rules, div-mul-le_self}
use Rattle.std.specs.Prelude.{take, drop}
use Rattle.std.specs.Simd.{first_chunks}
use Rattle.std.proofs.lemmas.List.{get_or-take, get_or-drop, drop-drop}
use Rattle.whole.specs.Counting.{figure_at}
use Rattle.whole.specs.Signs.{back}
use Rattle.rates.specs.SumsLaws.{sums_to, to_in, next, next_is, ended, left_small}
use Rattle.rates.proofs.windows.sums_of.Goals.{In-loop-four, After-with, After-with-in-loop-four, After-with-in-loop-four-2, After-with-in-loop-four-3}
use Rattle.rates.proofs.windows.sums_of.Goals as goal

-- the figure j of the four k
chunk_at : (n : ℕ) (w : List ℤ) (k : ℕ) (d : List ℤ) → k < n → get_or (first_chunks 4 n w) k d ≡ take 4 (drop (k * 4) w)
chunk_at zero w k d b = absurd (omega arith)
chunk_at (suc n) w zero d b = refl
chunk_at (suc n) w (suc k) d b = chunk_at n (drop 4 w) k d (omega arith) ∙ ap (take 4) (drop-drop (k * 4) 4 w ∙ ap (λ m. drop m w) (omega arith))

of_four : (n : ℕ) (w : List ℤ) (k j : ℕ) (d : List ℤ) → k < n → j < 4 → get_or (get_or (first_chunks 4 n w) k d) j (pos 0) ≡ figure_at w (k * 4 + j)
of_four n w k j d b h =
    ap (λ l. get_or l j (pos 0)) (chunk_at n w k d b) ∙ get_or-take 4 (drop (k * 4) w) j (pos 0) h ∙ get_or-drop (k * 4) w j (pos 0)

pub loop-four-init : goal.loop-four-init
loop-four-init c = sym (to_in c.args.window.now 0 refl)

-- the turn stays within the window
within : (c : In-loop-four) → c.loop-four.four-index * 4 + 4 ≤ length c.args.window.now
within c = omega (arith, div-mul-le_self (length c.args.window.now) 4)

pub with-requires : goal.with-requires
with-requires c =
    let l = within (goal.at.with-requires c).In-loop-four in
    let h = left_small c.args.window.now (c.loop-four.four-index * 4) c.loop-four.sums (omega (arith, c.requires)) (c.loop-four.invariant) in
    record { sum_in = h.0; squares_in = h.1 }

got0 : (c : After-with) → c.with.result ≡ sums_to c.args.window.now (c.loop-four.four-index * 4 + 1)
got0 c =
    let w = c.args.window.now in
    let k = c.loop-four.four-index in
    let e = ap (λ (f : List (List ℤ)). get_or (get_or f k []) 0 (pos 0)) c.as_chunks.ensures.front ∙ of_four (length w / 4) w k 0 [] (omega arith) (omega arith) in
    c.with.ensures ∙ ap (next c.loop-four.sums) (ap (λ x. to_z w64 (of_z w64 x)) e ∙ back (figure_at w (k * 4 + 0)) (search rules)) ∙ next_is w (k * 4 + 0) c.loop-four.sums (c.loop-four.invariant ∙ ap (sums_to w) (omega arith)) ∙ ap (sums_to w) (omega arith)

pub returns-in_err-with : goal.returns-in_err-with
returns-in_err-with c =
    let w = c.args.window.now in
    let l = within (goal.at.returns-in_err-with c).In-loop-four in
    c.from_residual.ensures ∙ sym (ended w (c.loop-four.four-index * 4 + 1) (length w) (omega arith) (sym (got0 (goal.at.returns-in_err-with c).After-with) ∙ c.in_err-with.was))

pub with-requires-in-loop-four : goal.with-requires-in-loop-four
with-requires-in-loop-four c =
    let l = within (goal.at.with-requires-in-loop-four c).In-loop-four in
    let h = left_small c.args.window.now (c.loop-four.four-index * 4 + 1) c.in_ok-with.field-0 (omega (arith, c.requires)) (sym c.in_ok-with.was ∙ got0 (goal.at.with-requires-in-loop-four c).After-with) in
    record { sum_in = h.0; squares_in = h.1 }

got1 : (c : After-with-in-loop-four) → c.with-in-loop-four.result ≡ sums_to c.args.window.now (c.loop-four.four-index * 4 + 2)
got1 c =
    let w = c.args.window.now in
    let k = c.loop-four.four-index in
    let e = ap (λ (f : List (List ℤ)). get_or (get_or f k []) 1 (pos 0)) c.as_chunks.ensures.front ∙ of_four (length w / 4) w k 1 [] (omega arith) (omega arith) in
    c.with-in-loop-four.ensures ∙ ap (next c.in_ok-with.field-0) (ap (λ x. to_z w64 (of_z w64 x)) e ∙ back (figure_at w (k * 4 + 1)) (search rules)) ∙ next_is w (k * 4 + 1) c.in_ok-with.field-0 (sym c.in_ok-with.was ∙ got0 (goal.at.After-with-in-loop-four c).After-with) ∙ ap (sums_to w) (omega arith)

pub returns-in_err-with-2 : goal.returns-in_err-with-2
returns-in_err-with-2 c =
    let w = c.args.window.now in
    let l = within (goal.at.returns-in_err-with-2 c).In-loop-four in
    c.from_residual-in_err-with-2.ensures ∙ sym (ended w (c.loop-four.four-index * 4 + 2) (length w) (omega arith) (sym (got1 (goal.at.returns-in_err-with-2 c).After-with-in-loop-four) ∙ c.in_err-with-2.was))

pub with-requires-in-loop-four-2 : goal.with-requires-in-loop-four-2
with-requires-in-loop-four-2 c =
    let l = within (goal.at.with-requires-in-loop-four-2 c).In-loop-four in
    let h = left_small c.args.window.now (c.loop-four.four-index * 4 + 2) c.in_ok-with-2.field-0 (omega (arith, c.requires)) (sym c.in_ok-with-2.was ∙ got1 (goal.at.with-requires-in-loop-four-2 c).After-with-in-loop-four) in
    record { sum_in = h.0; squares_in = h.1 }

got2 : (c : After-with-in-loop-four-2) → c.with-in-loop-four-2.result ≡ sums_to c.args.window.now (c.loop-four.four-index * 4 + 3)
got2 c =
    let w = c.args.window.now in
    let k = c.loop-four.four-index in
    let e = ap (λ (f : List (List ℤ)). get_or (get_or f k []) 2 (pos 0)) c.as_chunks.ensures.front ∙ of_four (length w / 4) w k 2 [] (omega arith) (omega arith) in
    c.with-in-loop-four-2.ensures ∙ ap (next c.in_ok-with-2.field-0) (ap (λ x. to_z w64 (of_z w64 x)) e ∙ back (figure_at w (k * 4 + 2)) (search rules)) ∙ next_is w (k * 4 + 2) c.in_ok-with-2.field-0 (sym c.in_ok-with-2.was ∙ got1 (goal.at.After-with-in-loop-four-2 c).After-with-in-loop-four) ∙ ap (sums_to w) (omega arith)

pub returns-in_err-with-3 : goal.returns-in_err-with-3
returns-in_err-with-3 c =
    let w = c.args.window.now in
    let l = within (goal.at.returns-in_err-with-3 c).In-loop-four in
    c.from_residual-in_err-with-3.ensures ∙ sym (ended w (c.loop-four.four-index * 4 + 3) (length w) (omega arith) (sym (got2 (goal.at.returns-in_err-with-3 c).After-with-in-loop-four-2) ∙ c.in_err-with-3.was))

pub with-requires-in-loop-four-3 : goal.with-requires-in-loop-four-3
with-requires-in-loop-four-3 c =
    let l = within (goal.at.with-requires-in-loop-four-3 c).In-loop-four in
    let h = left_small c.args.window.now (c.loop-four.four-index * 4 + 3) c.in_ok-with-3.field-0 (omega (arith, c.requires)) (sym c.in_ok-with-3.was ∙ got2 (goal.at.with-requires-in-loop-four-3 c).After-with-in-loop-four-2) in
    record { sum_in = h.0; squares_in = h.1 }

got3 : (c : After-with-in-loop-four-3) → c.with-in-loop-four-3.result ≡ sums_to c.args.window.now (c.loop-four.four-index * 4 + 4)
got3 c =
    let w = c.args.window.now in
    let k = c.loop-four.four-index in
    let e = ap (λ (f : List (List ℤ)). get_or (get_or f k []) 3 (pos 0)) c.as_chunks.ensures.front ∙ of_four (length w / 4) w k 3 [] (omega arith) (omega arith) in
    c.with-in-loop-four-3.ensures ∙ ap (next c.in_ok-with-3.field-0) (ap (λ x. to_z w64 (of_z w64 x)) e ∙ back (figure_at w (k * 4 + 3)) (search rules)) ∙ next_is w (k * 4 + 3) c.in_ok-with-3.field-0 (sym c.in_ok-with-3.was ∙ got2 (goal.at.After-with-in-loop-four-3 c).After-with-in-loop-four-2) ∙ ap (sums_to w) (omega arith)

pub returns-in_err-sums : goal.returns-in_err-sums
returns-in_err-sums c =
    let w = c.args.window.now in
    let l = within (goal.at.returns-in_err-sums c).In-loop-four in
    c.from_residual-in_err-sums.ensures ∙ sym (ended w (c.loop-four.four-index * 4 + 4) (length w) (omega arith) (sym (got3 (goal.at.returns-in_err-sums c).After-with-in-loop-four-3) ∙ c.in_err-sums.was))

pub loop-four-preserved : goal.loop-four-preserved
loop-four-preserved c = sym c.in_ok-sums.was ∙ got3 (goal.at.loop-four-preserved c).After-with-in-loop-four-3 ∙ ap (sums_to c.args.window.now) (omega arith)
