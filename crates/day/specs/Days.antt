-- Whole days by computation: the sheet of 01's text is 01's sheet, byte for byte; and a day with every call, whose sheet was worked out by
-- other means.
use Rattle.std.specs.Prelude.{◌≡◌, refl, List, ℕ}
use Rattle.whole.specs.Number.{min_z, max_z, takes_away, floor_div}
use Rattle.rules.specs.Account.{lg_value, deposit_of, required_of, first_shortfall, next_day_need, second_shortfall, excess_one, excess_two, limit_of, account_ok}
use Rattle.rules.specs.AccountCalls.{deposited, withdrawn, guaranteed, standing_of}
use Rattle.places.specs.Act.{sound_by, perform_by}
use Rattle.places.specs.ByAccount.{by_account}
use Rattle.lines.specs.Bytes.{bytes}
use Rattle.lines.specs.Text.{number_at}
use Rattle.lines.specs.Lines.{past, field_at, figures_at, kind_at, lines}
use Rattle.lines.specs.Print.{digits, decimal, numbers_line, bad_line}
use Rattle.dayfile.specs.Table.{count_line, contents_of}
use Rattle.dayfile.specs.Sections.{position_at, products_from, accounts_from, positions_from}
use Rattle.dayfile.specs.CallLines.{figures_of, call_at, call_of, calls_from, calls_at}
use Rattle.dayfile.specs.Day.{bodies_of}
use Rattle.rules.specs.Product.{rate_of, difference_of}
use Rattle.daily.specs.DailyFigures.{new_due, new_margin}
use Rattle.closing.specs.Close.{account_puts, close_puts}
use Rattle.calls.specs.Ledger.{the_ledger}
use Rattle.day.specs.Sheet.{accounts_part, calls_part, good_sheet, day_sheet, sheet_of}

-- 01, "The day file and the sheet"
pub text : List ℕ
text = bytes "FXDAY\nPRODUCTS 1\nACCOUNTS 2\nPOSITIONS 0\nCALLS 6\nEND\nY 0 1502500\nF 50000 0 0 0 200000 0 0\nL 300000 0 0 0 -200000 0 0\nW 0 60000\nB\nS\nW 0 60000\nS\nW 1 100001\n"

pub sheet : List ℕ
sheet = bytes "FXSHEET\n11 50000\n0 0\n0 0\n0 190000\n0 1\n11 100000\n0 190000 0 0 0 190000 0 0\n1 100000 0 0 0 100000 0 0\nHOUSE 0\n"

pub the_sheet : sheet_of the_ledger text ≡ sheet
unfolding text sheet number_at past field_at figures_at lines count_line contents_of kind_at position_at products_from accounts_from positions_from calls_from figures_of call_at call_of calls_at bodies_of digits decimal numbers_line bad_line accounts_part calls_part good_sheet day_sheet sheet_of the_ledger sound_by perform_by by_account account_ok withdrawn standing_of limit_of excess_one excess_two first_shortfall second_shortfall next_day_need deposit_of required_of lg_value min_z max_z takes_away floor_div
the_sheet = refl

-- two brokers, two providers, a cross: trades, a run with requests between its steps, two closes, a second run
pub full_text : List ℕ
full_text = bytes "FXDAY\nPRODUCTS 3\nACCOUNTS 4\nPOSITIONS 4\nCALLS 28\nEND\nY 1 1502500\nY 0 1630000\nX 0 10850 1 0\nF 2000000 500000 400000 180300 -100000 50000 0\nF 1500000 0 0 0 0 0 0\nL 9000000 0 0 180300 150000 0 0\nL 5000000 0 0 0 -50000 -50000 0\n0 0 30 45075000\n2 0 -30 -45075000\n1 2 0 0\n3 2 0 0\nD 1 250000\nG 0 1000001 1000001\nW 0 2000001\nT 1 2 1 7 1630001\nT 3 0 0 5 1502600\nT 1 3 2 10 10850\nT 0 1 0 1 1502500\nB\nW 2 100000\nS\nW 0 100000\nS\nD 3 1\nS\nW 2 50000\nS\nS\nC 1503100 350 380 1 1631200 420 400 1 10873 300 310 2\nB\nW 0 300000\nS\nS\nG 2 1 1\nS\nS\nC 1503100 350 380 1 1631200 420 400 3 10873 300 310 2\nC 1502000 350 380 0 1630500 420 400 1 10860 300 310 2\nW 1 10\n"

pub full_sheet : List ℕ
full_sheet = bytes "FXSHEET\n0 1750000\n0 990000\n11 1719700\n0 0\n0 0\n0 0\n6 0\n0 0\n0 8900000\n0 0\n0 1800000\n0 1\n0 5000001\n0 2\n0 9000000\n0 3\n7 0\n0 0\n0 0\n0 1500000\n0 0\n0 1\n6 0\n0 2\n0 3\n8 0\n0 0\n0 1749990\n0 1550000 -1200 0 0 1398600 0 0\n1 1749990 839 2967 -1953 1652346 0 0\n2 9000000 660 490 0 8772313 0 0\n3 4900001 -300 -3458 1952 4815657 0 0\nHOUSE 0\n"

pub the_full_sheet : sheet_of the_ledger full_text ≡ full_sheet
unfolding full_text full_sheet number_at past field_at figures_at lines count_line contents_of kind_at position_at products_from accounts_from positions_from calls_from figures_of call_at call_of calls_at bodies_of digits decimal numbers_line bad_line accounts_part calls_part good_sheet day_sheet sheet_of the_ledger sound_by perform_by by_account account_ok withdrawn standing_of limit_of excess_one excess_two first_shortfall second_shortfall next_day_need deposit_of required_of lg_value min_z max_z takes_away floor_div deposited guaranteed rate_of difference_of new_due new_margin account_puts close_puts
the_full_sheet = refl
