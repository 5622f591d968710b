-- Lists of items as bytes, for the samples.
use Rattle.std.specs.Prelude.{ℕ, zero, suc, ◌+◌, ◌*◌, ◌/◌, ◌%◌, ◌^◌, List, [], ◌∷◌, ◌++◌, length}

-- A register's address: VIA register r is at $EFE1FE + 512r.
abbrev pub register : ℕ → ℕ
register r = 0xefe1fe + 512 * r

-- A number in four bytes, the lowest first.
abbrev pub word : ℕ → List ℕ
word n = n % 256 ∷ n / 256 % 256 ∷ n / 65536 % 256 ∷ n / 16777216 % 256 ∷ []

-- RD and WR of a VIA register, after a wait in VIA ticks.
abbrev pub rd : ℕ → ℕ → List ℕ
rd wait r = 8 ∷ 0 ∷ 82 ∷ 68 ∷ wait % 256 ∷ wait / 256 ∷ word (register r)

abbrev pub wr : ℕ → ℕ → ℕ → List ℕ
wr wait r v = 9 ∷ 0 ∷ 87 ∷ 82 ∷ wait % 256 ∷ wait / 256 ∷ (word (register r) ++ (v ∷ []))

-- IWM location k is at $DFE1FF + 512k: an access by WR, after a wait in VIA ticks, and a RD with no wait.
abbrev pub location : ℕ → ℕ
location k = 0xdfe1ff + 512 * k

abbrev pub access : ℕ → ℕ → List ℕ
access wait k = 9 ∷ 0 ∷ 87 ∷ 82 ∷ wait % 256 ∷ wait / 256 ∷ (word (location k) ++ (0 ∷ []))

abbrev pub rd_iwm : ℕ → List ℕ
rd_iwm k = 8 ∷ 0 ∷ 82 ∷ 68 ∷ 0 ∷ 0 ∷ word (location k)

-- MW of some values to an address, after a wait in VIA ticks; to a VIA register.
abbrev pub mw_to : ℕ → ℕ → List ℕ → List ℕ
mw_to wait address vs = (9 + length vs) ∷ 0 ∷ 77 ∷ 87 ∷ wait % 256 ∷ wait / 256 ∷ (word address ++ (length vs ∷ vs))

abbrev pub mw : ℕ → ℕ → List ℕ → List ℕ
mw wait r vs = mw_to wait (register r) vs

-- DI, RS and PW with 0 seconds off, with no wait.
abbrev pub di : ℕ → ℕ → ℕ → ℕ → List ℕ
di drive insert locked sides = 8 ∷ 0 ∷ 68 ∷ 73 ∷ 0 ∷ 0 ∷ drive ∷ insert ∷ locked ∷ sides ∷ []

abbrev pub rs : List ℕ
rs = 4 ∷ 0 ∷ 82 ∷ 83 ∷ 0 ∷ 0 ∷ []

abbrev pub pw : List ℕ
pw = 8 ∷ 0 ∷ 80 ∷ 87 ∷ 0 ∷ 0 ∷ 0 ∷ 0 ∷ 0 ∷ 0 ∷ []

-- SE with no wait.
abbrev pub se : List ℕ
se = 4 ∷ 0 ∷ 83 ∷ 69 ∷ 0 ∷ 0 ∷ []

-- KC with this level, after a wait in VIA ticks.
abbrev pub kc : ℕ → ℕ → List ℕ
kc wait level = 5 ∷ 0 ∷ 75 ∷ 67 ∷ wait % 256 ∷ wait / 256 ∷ level ∷ []

-- Port B's bits 0 to 2 made outputs, with enable at 1 and data-clock at 0.
abbrev pub begin : List ℕ
begin = wr 0 0 4 ++ wr 0 2 7

-- Enable goes up.
abbrev pub end : List ℕ
end = wr 0 0 4

-- Enable falls.
abbrev pub select : List ℕ
select = wr 0 0 0

-- One bit: data-clock low, then high, with the bit on the data line.
abbrev pub clocked : ℕ → List ℕ
clocked b = wr 0 0 b ++ wr 0 0 (2 + b)

-- The n highest of the low k bits of a byte, high-order first.
unfoldable pub sent : ℕ → ℕ → ℕ → List ℕ
sent zero k byte = []
sent (suc n) zero byte = []
sent (suc n) (suc k) byte = clocked (byte / 2 ^ k % 2) ++ sent n k byte

-- A whole byte.
abbrev pub byte : ℕ → List ℕ
byte b = sent 8 8 b

-- The values of the same writes to port B, for one MW.
unfoldable pub sent_values : ℕ → ℕ → ℕ → List ℕ
sent_values zero k byte = []
sent_values (suc n) zero byte = []
sent_values (suc n) (suc k) byte = (byte / 2 ^ k % 2) ∷ (2 + byte / 2 ^ k % 2) ∷ sent_values n k byte

-- The 34 values of one whole write transaction.
abbrev pub transaction_values : ℕ → ℕ → List ℕ
transaction_values command b = 0 ∷ (sent_values 8 8 command ++ sent_values 8 8 b ++ (4 ∷ []))

-- One whole write transaction.
abbrev pub transaction : ℕ → ℕ → List ℕ
transaction command b = select ++ byte command ++ byte b ++ end

-- SEL 0, by PA5 made an output; ENABLE on, Q6 on.
abbrev pub sel_down : List ℕ
sel_down = wr 0 3 32

abbrev pub ready : List ℕ
ready = sel_down ++ access 0 9 ++ access 0 13

-- CA0 and CA1 on: locations 1 and 3. LSTRB on, and off again after so many ticks.
abbrev pub strobe : ℕ → List ℕ
strobe n = access 0 7 ++ access n 6
