-- Document 01's sentences on flags, enables, ports and the level, bit by bit. Bit k is one of 0 to 6, of a port one of 0 to 7.
use mathlib.Core.Path.{◌≡◌, refl, ap, ◌∙◌}
use mathlib.Core.Bool.{Bool, true, false, cond, not, ◌&&◌, ◌||◌}
use Prim.Native.Nat.{ℕ, ◌/◌, ◌%◌, ◌<◌}
use native.Mathlib.Omega.{arith}
use borrow.Author.Tests.{eq-eqb, ne_eqb}
use lib.Dec.{eqb}
use lib.Bits.{bit_and, bit_or}
use Rattle.via_bits.specs.Bytes.{bit, clear, port_a_flags}
use Rattle.via.specs.Via.{asking, level_of, raised_of}
use Rattle.via.specs.Writes.{via_written}
use Rattle.via.specs.Registers.{register_read}
use Rattle.via.specs.declared.Inputs.{Inputs}
use Rattle.via.specs.declared.Via.{Via}
use Rattle.via.proofs.Bits.{or-bit, clear-bit, port-bit, low_bit, asked, unasked}

-- "reading it gives the levels"
pub port-b-read : (k : ℕ) (i : Inputs) (v : Via) → k < 8 → v.ports.dirb < 256
    → bit k (register_read 0 i v).value ≡ cond (bit k v.ports.dirb) (bit k v.ports.outb) (bit k i.b)
unfolding register_read
port-b-read k i v h l = port-bit k v.ports.outb v.ports.dirb i.b h l

pub port-a-read : (k : ℕ) (i : Inputs) (v : Via) → k < 8 → v.ports.dira < 256
    → bit k (register_read 1 i v).value ≡ cond (bit k v.ports.dira) (bit k v.ports.outa) (bit k i.a)
unfolding register_read
port-a-read k i v h l = port-bit k v.ports.outa v.ports.dira i.a h l

-- "VB sets flag 1, SE flag 0": the flags of the mask, and no other.
pub raised-bit : (k mask : ℕ) (v : Via) → bit k (raised_of mask v).flags ≡ (bit k v.flags || bit k mask)
unfolding raised_of
raised-bit k mask v = or-bit k v.flags mask

-- "Any access to register 1 clears flag 1, and flag 0 unless PCR bits 3 to 1 are 001 or 011"
a_byte : (pcr : ℕ) → port_a_flags pcr < 256
unfolding port_a_flags
a_byte pcr = go (eqb (pcr / 2 % 8) 1 || eqb (pcr / 2 % 8) 3)
  where
    go : (t : Bool) → cond t 2 3 < 256
    go true = omega arith
    go false = omega arith

pub write-1 : (k value : ℕ) (v : Via) → k < 8 → bit k (via_written 1 value v).flags ≡ (bit k v.flags && not (bit k (port_a_flags v.pcr)))
unfolding via_written
write-1 k value v h = clear-bit k v.flags (port_a_flags v.pcr) h (a_byte v.pcr)

pub read-1 : (value : ℕ) (i : Inputs) (v : Via) → (register_read 1 i v).via.flags ≡ (via_written 1 value v).flags
unfolding via_written register_read
read-1 value i v = refl

-- "4 and 6 set the low latch": a write to 6 clears no flag, unlike one to 7.
pub write-6 : (value : ℕ) (v : Via) → (via_written 6 value v).flags ≡ v.flags
unfolding via_written
write-6 value v = refl

-- "register 15 clears none"
pub write-15 : (value : ℕ) (v : Via) → (via_written 15 value v).flags ≡ v.flags
unfolding via_written
write-15 value v = refl

pub read-15 : (i : Inputs) (v : Via) → (register_read 15 i v).via ≡ v
unfolding register_read
read-15 i v = refl

-- "Writing 13 clears flags where bits 0 to 6 are 1."
cleared_by : (k a value : ℕ) → k < 7 → bit k (clear a (value % 128)) ≡ (bit k a && not (bit k value))
cleared_by k a value h =
    clear-bit k a (value % 128) (omega arith) (omega arith)
    ∙ ap (λ (x : Bool). bit k a && not x) (low_bit k value h)

pub write-13 : (k value : ℕ) (v : Via) → k < 7 → bit k (via_written 13 value v).flags ≡ (bit k v.flags && not (bit k value))
unfolding via_written
write-13 k value v h = cleared_by k v.flags value h

-- "Writing 14 sets the enables where bits 0 to 6 are 1 if bit 7 is 1, else clears them."
pub write-14 : (k value : ℕ) (v : Via) → k < 7
    → bit k (via_written 14 value v).enables
    ≡ cond (bit 7 value) (bit k v.enables || bit k value) (bit k v.enables && not (bit k value))
unfolding via_written
write-14 k value v h = go (bit 7 value)
  where
    go : (t : Bool)
        → bit k (cond t (bit_or v.enables (value % 128)) (clear v.enables (value % 128)))
        ≡ cond t (bit k v.enables || bit k value) (bit k v.enables && not (bit k value))
    go true =
        or-bit k v.enables (value % 128) ∙ ap (λ (x : Bool). bit k v.enables || x) (low_bit k value h)
    go false = cleared_by k v.enables value h

-- "The level is 1 if an enabled flag is set, else 0."
pub level-1 : (k : ℕ) (v : Via) → k < 7 → bit k v.flags ≡ true → bit k v.enables ≡ true → level_of v ≡ 1
unfolding asking level_of
level-1 k v h f e =
    ap (λ (t : Bool). cond (not t) 1 0)
    (ne_eqb (bit_and (bit_and v.flags v.enables) 127) 0 (asked k v.flags v.enables h f e))

pub level-0 : (v : Via) → ((k : ℕ) → k < 7 → (bit k v.flags && bit k v.enables) ≡ false) → level_of v ≡ 0
unfolding asking level_of
level-0 v n =
    ap (λ (t : Bool). cond (not t) 1 0)
    (eq-eqb (bit_and (bit_and v.flags v.enables) 127) 0 (unasked v.flags v.enables n))
