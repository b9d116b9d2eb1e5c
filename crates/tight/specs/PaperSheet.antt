-- The sheet of 01, "The day file and the sheet": its input gives its output, byte for byte, and an empty text gives `BAD 1`. By computation.
-- Assumes nothing.
use Rattle.std.specs.Prelude.{◌≡◌, refl, List, ◌++◌, ℕ}
use Rattle.whole.specs.Number.{min_z, max_z, takes_away, floor_div}
use Rattle.rules.specs.Account.{lg_value, deposit_of, required_of, first_shortfall, next_day_need, second_shortfall, excess_one, excess_two, limit_of, account_ok}
use Rattle.rules.specs.AccountCalls.{withdrawn, standing_of}
use Rattle.places.specs.ByAccount.{by_account}
use Rattle.places.specs.Act.{sound_by, perform_by}
use Rattle.lines.specs.Bytes.{bytes}
use Rattle.lines.specs.Text.{number_at}
use Rattle.lines.specs.Lines.{past, field_at, figures_at, kind_at, lines}
use Rattle.lines.specs.Print.{digits, decimal, numbers_line, bad_line}
use Rattle.dayfile.specs.Table.{count_line, contents_of}
use Rattle.dayfile.specs.Sections.{position_at, products_from, accounts_from, positions_from}
use Rattle.dayfile.specs.CallLines.{figures_of, call_at, call_of, calls_from, calls_at}
use Rattle.dayfile.specs.Day.{bodies_of}
use Rattle.day.specs.Sheet.{accounts_part, calls_part, good_sheet, day_sheet, sheet_of}
use Rattle.calls.specs.Ledger.{the_ledger}

abbrev pub input : List ℕ
input =
    bytes "FXDAY\nPRODUCTS 1\nACCOUNTS 2\nPOSITIONS 0\nCALLS 6\nEND\nY 0 1502500\nF 50000 0 0 0 200000 0 0\nL 300000 0 0 0 -200000 0 0\n"
    ++ bytes "W 0 60000\nB\nS\nW 0 60000\nS\nW 1 100001\n"

abbrev pub output : List ℕ
output =
    bytes "FXSHEET\n11 50000\n0 0\n0 0\n0 190000\n0 1\n11 100000\n"
    ++ bytes "0 190000 0 0 0 190000 0 0\n1 100000 0 0 0 100000 0 0\nHOUSE 0\n"

pub the_sheet : sheet_of the_ledger input ≡ output
unfolding number_at past field_at figures_at lines count_line contents_of kind_at position_at products_from accounts_from positions_from calls_from figures_of call_at call_of calls_at bodies_of digits decimal numbers_line bad_line accounts_part calls_part good_sheet day_sheet sheet_of the_ledger sound_by perform_by by_account account_ok limit_of excess_one excess_two deposit_of lg_value required_of first_shortfall second_shortfall next_day_need withdrawn standing_of takes_away min_z max_z floor_div
the_sheet = refl

pub no_text : sheet_of the_ledger (bytes "") ≡ bytes "BAD 1\n"
unfolding number_at past field_at figures_at lines count_line contents_of kind_at bodies_of digits decimal numbers_line bad_line day_sheet sheet_of products_from accounts_from positions_from calls_from calls_at
no_text = refl
