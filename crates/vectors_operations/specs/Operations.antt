-- The operations of the samples' script, by the table of docs/FORMATS.md: a line's letter is its ASCII byte.
use Rattle.std.specs.Prelude.{ℕ, ◌+◌, ◌*◌, ◌/◌, ◌%◌, Bool, false, cond, ◌&&◌, ◌||◌, List, [], ◌∷◌, eqb, ltb, leb, length, get_or, set, Option, Some, None}
use Rattle.vectors_operations.specs.declared.Order.{Order}

-- An operation and its two numbers.
abbrev pub order_of : ℕ → ℕ → ℕ → Order
order_of x y z = record { op = x; a = y; b = z }

-- ---- the numbers that a line may have
-- `w R V` is 119, `r R T` 114, `i K T` 105, `b N B` 98, `t N B` 116, `z K V` 122, `m K` 109, `a N` 97, `g N` 103, `s N` 115.
unfoldable pub known_of : ℕ → ℕ → ℕ → Bool
known_of op a b =
    cond (eqb op 119) (ltb a 16 && ltb b 256)
    (cond (eqb op 114 || eqb op 105) (ltb a 16 && ltb b 65536)
    (cond (eqb op 98 || eqb op 116) (ltb a 9 && ltb b 256)
    (cond (eqb op 122) (ltb b 256)
    (cond (eqb op 109) (eqb b 0)
    (cond (eqb op 97) (ltb a 16 && eqb b 0)
    (cond (eqb op 103 || eqb op 115) (ltb a 256 && eqb b 0) false))))))

-- ---- the accesses that a line makes
-- One for `w`, `r` and `i`, four for `a`, two a bit for `b`, three each time or bit for the others.
unfoldable pub accesses_of : Order → ℕ
accesses_of x =
    cond (eqb x.op 119 || eqb x.op 114 || eqb x.op 105) 1
    (cond (eqb x.op 97) 4
    (cond (eqb x.op 98) (x.a % 256 * 2) (x.a % 256 * 3)))

-- WR of a value to a VIA register; RD of a VIA register; RD of an IWM location after so many VIA ticks.
abbrev pub write : ℕ → ℕ → Order
write register value = order_of 119 register value

abbrev pub read : ℕ → Order
read register = order_of 114 register 0

abbrev pub iwm : ℕ → ℕ → Order
iwm location ticks = order_of 105 location ticks

-- The first, second or third of three in turn.
abbrev pub turn : ℕ → Order → Order → Order → Order
turn k x y z = cond (eqb (k % 3) 0) x (cond (eqb (k % 3) 1) y z)

-- "CA2, CA1, CA0 and SEL take bits 3 to 0 of N": CA0, CA1 and CA2 at IWM locations 0 to 5, SEL bit 5 of port A.
unfoldable pub lines_of : ℕ → ℕ → Order
lines_of n k =
    cond (eqb k 0) (iwm (n / 2 % 2) 0)
    (cond (eqb k 1) (iwm (n / 4 % 2 + 2) 0)
    (cond (eqb k 2) (iwm (n / 8 % 2 + 4) 0) (write 15 (n % 2 * 32))))

-- Access k of a line. For the clock, data is bit 0 of port B, data-clock bit 1; bits go from bit 7 of the byte.
unfoldable pub access_of : Order → ℕ → ℕ → Order
unfolding lines_of
access_of x k byte =
    cond (eqb x.op 97) (lines_of x.a k)
    -- "LSTRB on, off after 1 VIA tick, IWM location 14 read 9,401 VIA ticks later"
    (cond (eqb x.op 115) (turn k (iwm 7 0) (iwm 6 1) (iwm 14 9401))
    -- "RD of port B, data-clock rises, data-clock falls"
    (cond (eqb x.op 103) (turn k (read 0) (write 0 2) (write 0 0))
    -- "data-clock moved by WR of port B's directions": an input is undriven and 1
    (cond (eqb x.op 116) (turn k (write 0 (byte / 128 % 2)) (write 2 5) (write 2 7))
    -- "data with data-clock low, then high, by WR of port B"
    (cond (eqb x.op 98) (write 0 (byte / 128 % 2 + k % 2 * 2)) x))))

-- ---- the record of an access
-- Its length, `WR` or `RD`, the VIA ticks before, the address; with WR the value. VIA register R is at $EFE1FE + 512 R, IWM location K at
-- $DFE1FF + 512 K.
unfoldable pub record_of : Order → List ℕ
record_of x =
    cond (eqb x.op 119) (9 ∷ 0 ∷ 87 ∷ 82 ∷ 0 ∷ 0 ∷ 254 ∷ (225 + 2 * (x.a % 16)) ∷ 239 ∷ 0 ∷ (x.b % 256) ∷ [])
    (cond (eqb x.op 114) (8 ∷ 0 ∷ 82 ∷ 68 ∷ (x.b % 256) ∷ (x.b / 256 % 256) ∷ 254 ∷ (225 + 2 * (x.a % 16)) ∷ 239 ∷ 0 ∷ 0 ∷ [])
    (8 ∷ 0 ∷ 82 ∷ 68 ∷ (x.b % 256) ∷ (x.b / 256 % 256) ∷ 255 ∷ (225 + 2 * (x.a % 16)) ∷ 223 ∷ 0 ∷ 0 ∷ []))

-- ---- the value
-- Before a line: B where bits are sent, else as it was.
unfoldable pub start_of : Order → ℕ → ℕ
start_of x value = cond (eqb x.op 98 || eqb x.op 116) x.b value

-- After access k: the byte read; "the bits read, behind those of the value before"; and once its bit is sent, the byte moved up by one.
unfoldable pub seen_of : ℕ → ℕ → ℕ → ℕ → ℕ
seen_of op k byte got =
    cond (eqb op 114 || eqb op 105) got
    (cond (eqb op 103) (cond (eqb (k % 3) 0) (byte % 128 * 2 + got % 2) byte)
    (cond (eqb op 116) (cond (eqb (k % 3) 2) (byte % 128 * 2) byte)
    (cond (eqb op 98) (cond (eqb (k % 2) 1) (byte % 128 * 2) byte) byte)))

-- ---- the image
-- `m K`: "byte K of the image"; none where it has no such byte.
unfoldable pub byte_of : List ℕ → Order → Option ℕ
byte_of image x = cond (leb (length image) x.a) None (Some (cond (eqb x.op 109) (get_or image x.a 0) 0))

-- `z K V`: "byte K of the image becomes V".
unfoldable pub changed_of : List ℕ → Order → List ℕ
changed_of image x =
    cond (leb (length image) x.a) image (cond (eqb x.op 109) image (set image x.a (x.b % 256)))
