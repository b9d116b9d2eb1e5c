-- Document 01, "Sharing a default loss" (source 000, article 12-7(2)): the two layers, their shares, what remains, and what is refused.
-- What a reader believes; a share of one amount is portions' `share_of`.
use Rattle.std.specs.Prelude.{Bool, cond, ◌&&◌, List, ℕ, ◌-◌, min, leb, eqb, ℤ, pos, neg_ℤ, nat_abs, length}
use Rattle.whole.specs.Number.{between, is, pp, nn}
use Rattle.whole.specs.Counting.{all, total, listed, figure_at}
use Rattle.portions.specs.Share.{share_of}
use Rattle.portions.specs.Bounds.{most_members}
use Rattle.rules.specs.declared.Reply.{Reply}

-- ---- what is refused ("Units and sizes", "Numbers returned")

abbrev pub most_loss : ℕ
most_loss = 100000000000000

-- a clearing deposit, and a difference in absolute value
abbrev pub most_figure : ℕ
most_figure = 1000000000000

-- the five lists have one length, 1 to 64
abbrev pub one_length : ℕ → ℕ → ℕ → ℕ → ℕ → Bool
one_length n differences marks first second = leb 1 n && (leb n most_members && (eqb differences n && (eqb marks n && (eqb first n && eqb second n))))

-- a member's deposit, difference and mark are in range, a defaulter's too
abbrev pub member_ok : ℤ → ℤ → ℤ → Bool
member_ok deposit difference mark =
    between (pos 0) (pos most_figure) deposit && (between (neg_ℤ (pos most_figure)) (pos most_figure) difference && between (pos 0) (pos 1) mark)

abbrev pub members_ok : List ℤ → List ℤ → List ℤ → Bool
members_ok deposits differences marks = all (length deposits) (λ i. member_ok (figure_at deposits i) (figure_at differences i) (figure_at marks i))

-- the number of the refusal, the lowest that applies; 0 where there is none
unfoldable pub refusal : ℤ → List ℤ → List ℤ → List ℤ → ℕ → ℕ → ℕ
refusal loss deposits differences marks first second =
    cond (one_length (length deposits) (length differences) (length marks) first second)
    (cond (between (pos 0) (pos most_loss) loss)
    (cond (members_ok deposits differences marks) 0 8)
    5)
    2

-- ---- what a member counts for

-- a member whose default mark is 0 survives
abbrev pub survives : ℤ → Bool
survives mark = is 0 mark

-- by what a layer is shared: a survivor's figure, where it is positive
unfoldable pub weight_of : ℤ → ℤ → ℕ
weight_of mark figure = cond (survives mark) (pp figure) 0

-- a defaulter's negative difference, in absolute value
unfoldable pub negative_of : ℤ → ℤ → ℕ
negative_of mark difference = cond (survives mark) 0 (nn difference)

unfoldable pub weight : List ℤ → List ℤ → ℕ → ℕ
weight marks figures i = weight_of (figure_at marks i) (figure_at figures i)

unfoldable pub negative : List ℤ → List ℤ → ℕ → ℕ
negative marks differences i = negative_of (figure_at marks i) (figure_at differences i)

-- the defaulters' negative differences together
abbrev pub negatives : List ℤ → List ℤ → ℕ
negatives marks differences = total (length differences) (negative marks differences)

-- ---- the layers

-- a layer: the least of `most` and of what the survivors weigh together
unfoldable pub layer : ℕ → List ℤ → List ℤ → ℕ
layer most marks figures = min most (total (length figures) (weight marks figures))

-- a member's share of it, and every member's
abbrev pub bears : ℕ → List ℤ → List ℤ → ℕ → ℕ
bears most marks figures i = share_of (length figures) (weight marks figures) (layer most marks figures) i

unfoldable pub layer_shares : ℕ → List ℤ → List ℤ → List ℤ
layer_shares most marks figures = listed (length figures) (λ i. pos (bears most marks figures i))

-- layer one: the least of the loss and the survivors' deposits, shared by deposit
abbrev pub layer_one : ℕ → List ℤ → List ℤ → ℕ
layer_one loss deposits marks = layer loss marks deposits

abbrev pub shares_one : ℕ → List ℤ → List ℤ → List ℤ
shares_one loss deposits marks = layer_shares loss marks deposits

-- layer two: the least of what remains, of the defaulters' negative differences in absolute value, and of the survivors' positive
-- differences, shared by those
unfoldable pub most_two : ℕ → List ℤ → List ℤ → List ℤ → ℕ
most_two loss deposits differences marks = min (loss - layer_one loss deposits marks) (negatives marks differences)

abbrev pub layer_two : ℕ → List ℤ → List ℤ → List ℤ → ℕ
layer_two loss deposits differences marks = layer (most_two loss deposits differences marks) marks differences

abbrev pub shares_two : ℕ → List ℤ → List ℤ → List ℤ → List ℤ
shares_two loss deposits differences marks = layer_shares (most_two loss deposits differences marks) marks differences

-- what remains then
unfoldable pub remains : ℕ → List ℤ → List ℤ → List ℤ → ℕ
remains loss deposits differences marks = loss - layer_one loss deposits marks - layer_two loss deposits differences marks

-- ---- the call: the answer, and the two lists as it leaves them. A refusal leaves them as they were

abbrev pub reply : ℕ → ℤ → Reply
reply k x = record { number = k; figure = x }

unfoldable pub loss_shared : ℤ → List ℤ → List ℤ → List ℤ → List ℤ → List ℤ → Reply × List ℤ × List ℤ
loss_shared loss deposits differences marks first second =
    cond (eqb (refusal loss deposits differences marks (length first) (length second)) 0)
    (reply 0 (pos (remains (nat_abs loss) deposits differences marks)), shares_one (nat_abs loss) deposits marks, shares_two (nat_abs loss) deposits differences marks)
    (reply (refusal loss deposits differences marks (length first) (length second)) (pos 0), first, second)
