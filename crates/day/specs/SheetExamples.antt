-- Texts read and printed by computation. 01's example, as it is read; bad texts with their first bad line, over any ledger.
use Rattle.std.specs.Prelude.{◌≡◌, refl, List, [], ◌∷◌, ◌++◌, ℕ, pos, negsuc}
use Rattle.places.specs.ByAccount.{by_account}
use Rattle.lines.specs.Bytes.{bytes}
use Rattle.lines.specs.Text.{number_at}
use Rattle.lines.specs.Lines.{past, field_at, figures_at, kind_at, lines}
use Rattle.lines.specs.Print.{digits, decimal, numbers_line, bad_line}
use Rattle.dayfile.specs.Table.{count_line, contents_of}
use Rattle.dayfile.specs.Sections.{position_at, products_from, accounts_from, positions_from}
use Rattle.dayfile.specs.CallLines.{withdrawal, begin, step, close, figures_of, call_at, call_of, calls_from, calls_at}
use Rattle.dayfile.specs.Day.{bodies_of, day_of}
use Rattle.calls.specs.Ledger.{LedgerRules}
use Rattle.day.specs.Sheet.{day_sheet, sheet_of}

-- 01's table of contents and bodies
top : List ℕ
top = bytes "FXDAY\nPRODUCTS 1\nACCOUNTS 2\nPOSITIONS 0\nCALLS 6\nEND\nY 0 1502500\nF 50000 0 0 0 200000 0 0\nL 300000 0 0 0 -200000 0 0\n"

calls : List ℕ
calls = bytes "W 0 60000\nB\nS\nW 0 60000\nS\nW 1 100001\n"

the_calls : (day_of (top ++ calls)).calls ≡ withdrawal (pos 0) (pos 60000) ∷ begin ∷ step ∷ withdrawal (pos 0) (pos 60000) ∷ step ∷ withdrawal (pos 1) (pos 100001) ∷ []
unfolding top calls number_at past field_at figures_at lines count_line contents_of kind_at position_at products_from accounts_from positions_from calls_from figures_of call_at call_of calls_at bodies_of
the_calls = refl

-- n, p, phase, house; kind, mark, price, principal, quote; and of each account kind, cash, guarantee, cap, margin, dues, lots, book
the_words : (day_of (top ++ calls)).words
    ≡ pos 2 ∷ pos 1 ∷ pos 0 ∷ pos 0
    ∷ pos 0 ∷ pos 0 ∷ pos 1502500 ∷ pos 0 ∷ pos 0
    ∷ pos 0 ∷ pos 50000 ∷ pos 0 ∷ pos 0 ∷ pos 0 ∷ pos 200000 ∷ pos 0 ∷ pos 0 ∷ pos 0 ∷ pos 0
    ∷ pos 1 ∷ pos 300000 ∷ pos 0 ∷ pos 0 ∷ pos 0 ∷ negsuc 199999 ∷ pos 0 ∷ pos 0 ∷ pos 0 ∷ pos 0
    ∷ []
unfolding top calls number_at past field_at figures_at lines count_line contents_of kind_at position_at products_from accounts_from positions_from calls_from figures_of call_at call_of calls_at bodies_of by_account
the_words = refl

small : List ℕ
small = bytes "FXDAY\nPRODUCTS 1\nACCOUNTS 2\nPOSITIONS 2\nCALLS 0\nEND\nY 0 1502500\nF 0 0 0 0 0 0 0\nL 0 0 0 0 0 0 0\n"

all : {A B : Type 0} → (A → B) → List A → List B
all f [] = []
all f (a ∷ l) = f a ∷ all f l

-- empty; no line feed; a line missing; counts 0, 17, 01, with a blank; no END; -0, a leading zero, a plus, two spaces, 2 ^ 63 and an eighth
-- figure in an account; a byte behind the last call; a call missing; a call of no letter; a position twice, of no account, of no product
bad : List (List ℕ)
bad =
    bytes ""
    ∷ bytes "FXDAY"
    ∷ bytes "FXDAY\n"
    ∷ bytes "FXDAY\nPRODUCTS 0\n"
    ∷ bytes "FXDAY\nPRODUCTS 17\n"
    ∷ bytes "FXDAY\nPRODUCTS 01\n"
    ∷ bytes "FXDAY\nPRODUCTS 1 \n"
    ∷ bytes "FXDAY\nPRODUCTS 1\nACCOUNTS 2\nPOSITIONS 0\nCALLS 6\nEND"
    ∷ (bytes "FXDAY\nPRODUCTS 1\nACCOUNTS 1\nPOSITIONS 0\nCALLS 0\nEND\nY 0 1\nF -0 0 0 0 0 0 0\n")
    ∷ (bytes "FXDAY\nPRODUCTS 1\nACCOUNTS 1\nPOSITIONS 0\nCALLS 0\nEND\nY 0 1\nF 07 0 0 0 0 0 0\n")
    ∷ (bytes "FXDAY\nPRODUCTS 1\nACCOUNTS 1\nPOSITIONS 0\nCALLS 0\nEND\nY 0 1\nF +7 0 0 0 0 0 0\n")
    ∷ (bytes "FXDAY\nPRODUCTS 1\nACCOUNTS 1\nPOSITIONS 0\nCALLS 0\nEND\nY 0 1\nF 7  0 0 0 0 0 0\n")
    ∷ (bytes "FXDAY\nPRODUCTS 1\nACCOUNTS 1\nPOSITIONS 0\nCALLS 0\nEND\nY 0 1\nF 9223372036854775808 0 0 0 0 0 0\n")
    ∷ (bytes "FXDAY\nPRODUCTS 1\nACCOUNTS 1\nPOSITIONS 0\nCALLS 0\nEND\nY 0 1\nF 7 0 0 0 0 0 0 0\n")
    ∷ (top ++ calls ++ bytes "\n")
    ∷ (top ++ bytes "W 0 60000\nB\nS\nW 0 60000\nS\n")
    ∷ (top ++ bytes "W 0 60000\nB\nS\nQ 0\nS\n")
    ∷ (small ++ bytes "0 0 0 0\n0 0 0 0\n")
    ∷ (small ++ bytes "0 0 0 0\n2 0 0 0\n")
    ∷ (small ++ bytes "0 1 0 0\n")
    ∷ (small ++ bytes "-1 0 0 0\n")
    ∷ []

the_bad : (l : LedgerRules) → all (sheet_of l) bad ≡ all bad_line (1 ∷ 1 ∷ 2 ∷ 2 ∷ 2 ∷ 2 ∷ 2 ∷ 6 ∷ 8 ∷ 8 ∷ 8 ∷ 8 ∷ 8 ∷ 8 ∷ 16 ∷ 15 ∷ 13 ∷ 11 ∷ 11 ∷ 10 ∷ 10 ∷ [])
unfolding top calls small bad all number_at past field_at figures_at lines count_line contents_of kind_at position_at products_from accounts_from positions_from calls_from figures_of call_at call_of calls_at bodies_of digits decimal numbers_line bad_line day_sheet sheet_of
the_bad l = refl

-- a close's figures go by product
columns : call_of 2 67 (pos 1 ∷ pos 2 ∷ pos 3 ∷ pos 4 ∷ pos 5 ∷ pos 6 ∷ pos 7 ∷ pos 8 ∷ []) ≡ close (pos 1 ∷ pos 5 ∷ []) (pos 2 ∷ pos 6 ∷ []) (pos 3 ∷ pos 7 ∷ []) (pos 4 ∷ pos 8 ∷ [])
unfolding call_of
columns = refl
