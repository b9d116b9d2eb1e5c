-- One small ledger (01, "The ledger's words"), by the words that the examples change: two accounts, one yen product.
use Rattle.std.specs.Prelude.{List, [], ◌∷◌, ℤ, pos, negsuc}

-- phase, house, last closing price; then the accounts' words
abbrev pub ledger : ℤ → ℤ → ℤ → List ℤ → List ℤ
ledger phase house price accounts = pos 2 ∷ pos 1 ∷ phase ∷ house ∷ pos 0 ∷ pos 0 ∷ price ∷ pos 0 ∷ pos 0 ∷ accounts

-- an account with its position, before the accounts that follow: its kind, cash, guarantee, cap, initial margin, due 0, lots, book
abbrev pub account : ℤ → ℤ → ℤ → ℤ → ℤ → ℤ → ℤ → ℤ → List ℤ → List ℤ
account kind cash guarantee cap margin due lots book rest = kind ∷ cash ∷ guarantee ∷ cap ∷ margin ∷ due ∷ pos 0 ∷ pos 0 ∷ lots ∷ book ∷ rest

-- by cash, due 0, lots and book: a broker and a liquidity provider, without guarantee and initial margin
abbrev pub broker : ℤ → ℤ → ℤ → ℤ → List ℤ → List ℤ
broker cash due lots book rest = account (pos 0) cash (pos 0) (pos 0) (pos 0) due lots book rest

abbrev pub provider : ℤ → ℤ → ℤ → ℤ → List ℤ → List ℤ
provider cash due lots book rest = account (pos 1) cash (pos 0) (pos 0) (pos 0) due lots book rest

-- the start of 01's day file: the broker is to receive 200,000, the provider to pay them; by phase
abbrev pub opening : ℤ → List ℤ
opening phase = ledger phase (pos 0) (pos 1502500) (broker (pos 50000) (pos 200000) (pos 0) (pos 0) (provider (pos 300000) (negsuc 199999) (pos 0) (pos 0) []))

-- the run done, 30 lots between the two, by the cash of each
abbrev pub settled : ℤ → ℤ → List ℤ
settled c d = ledger (pos 3) (pos 0) (pos 1502500) (broker c (pos 0) (pos 30) (pos 45075000) (provider d (pos 0) (negsuc 29) (negsuc 45074999) []))

-- the broker one lot from the bound of a position
abbrev pub full : List ℤ
full = ledger (pos 0) (pos 0) (pos 1502500) (broker (pos 0) (pos 0) (pos 999999) (pos 0) (provider (pos 0) (pos 0) (negsuc 999998) (pos 0) []))

-- the broker by its cash, with nothing due
abbrev pub holding : ℤ → List ℤ
holding c = ledger (pos 0) (pos 0) (pos 1502500) (broker c (pos 0) (pos 0) (pos 0) (provider (pos 0) (pos 0) (pos 0) (pos 0) []))

-- R10 of 01: F, cash 80,000, margin 600,000, due 0 -100,000
abbrev pub short : List ℤ
short = ledger (pos 0) (pos 0) (pos 1502500) (account (pos 0) (pos 80000) (pos 0) (pos 0) (pos 600000) (negsuc 99999) (pos 0) (pos 0) (provider (pos 0) (pos 0) (pos 0) (pos 0) []))

-- R8 of 01 with a smaller guarantee: F, cash 1,000,000, LG value 495,000, margin 600,000, dues -100,000, 50,000, 0
abbrev pub with_guarantee : List ℤ
with_guarantee = ledger (pos 0) (pos 0) (pos 1502500) (pos 0 ∷ pos 1000000 ∷ pos 500000 ∷ pos 500000 ∷ pos 600000 ∷ negsuc 99999 ∷ pos 50000 ∷ pos 0 ∷ pos 0 ∷ pos 0 ∷ provider (pos 0) (pos 0) (pos 0) (pos 0) [])

-- M-101: the provider by its cash, due 0 and due 1, without initial margin
abbrev pub providing : ℤ → ℤ → ℤ → List ℤ
providing cash due0 due1 = ledger (pos 0) (pos 0) (pos 1502500) (broker (pos 0) (pos 0) (pos 0) (pos 0) (pos 1 ∷ cash ∷ pos 0 ∷ pos 0 ∷ pos 0 ∷ due0 ∷ due1 ∷ pos 0 ∷ pos 0 ∷ pos 0 ∷ []))

-- due to pay 100,000 today and receive 300,000 tomorrow, with 80,000 held; to receive 60,000 today and pay 50,000 tomorrow, with nothing held
abbrev pub owing : List ℤ
owing = providing (pos 80000) (negsuc 99999) (pos 300000)

abbrev pub receiving : List ℤ
receiving = providing (pos 0) (pos 60000) (negsuc 49999)

-- F, cash -100,000, no initial margin, due 0 50,000: required margin is -50,000
abbrev pub overdrawn : List ℤ
overdrawn = ledger (pos 0) (pos 0) (pos 1502500) (broker (negsuc 99999) (pos 50000) (pos 0) (pos 0) (provider (pos 0) (pos 0) (pos 0) (pos 0) []))

-- 01: house 10^17 with due 0 of -1 in account 0 and 1 in account 1; by phase
abbrev pub brim : ℤ → List ℤ
brim phase = ledger phase (pos 100000000000000000) (pos 1502500) (broker (pos 0) (negsuc 0) (pos 0) (pos 0) (provider (pos 0) (pos 1) (pos 0) (pos 0) []))
