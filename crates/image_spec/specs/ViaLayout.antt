-- The VIA's part of an image: its layout, and how it is read.
use Rattle.std.specs.Prelude.{ℕ, ◌<◌, Bool, List, [], ◌∷◌, ◌++◌, get_or}
use Rattle.via.specs.declared.Via.{Via}
use Rattle.image_spec.specs.Layout.{bytes16, flag_byte, number16, flag_at, same_bytes}

-- The ports, T1, T2, the other registers and the count of pulses.
abbrev pub via_layout : Via → List ℕ
via_layout v =
    (v.ports.outb ∷ v.ports.outa ∷ v.ports.dirb ∷ v.ports.dira ∷ [])
    ++ bytes16 v.t1.counter
    ++ (v.t1.low ∷ v.t1.high ∷ flag_byte v.t1.armed ∷ flag_byte v.t1.due ∷ [])
    ++ bytes16 v.t2.counter
    ++ (v.t2.low ∷ flag_byte v.t2.armed ∷ [])
    ++ (v.sr ∷ v.acr ∷ v.pcr ∷ v.flags ∷ v.enables ∷ v.pulses ∷ [])

-- The same, opened only where a proof asks for it.
unfoldable pub via_bytes : Via → List ℕ
via_bytes v = via_layout v

-- How they are read.
abbrev pub via_fields : List ℕ → Via
via_fields b =
    record {
      ports = record { outb = get_or b 0 0; outa = get_or b 1 0; dirb = get_or b 2 0; dira = get_or b 3 0 };
      t1 = record { counter = number16 b 4; low = get_or b 6 0; high = get_or b 7 0; armed = flag_at b 8; due = flag_at b 9 };
      t2 = record { counter = number16 b 10; low = get_or b 12 0; armed = flag_at b 13 };
      sr = get_or b 14 0;
      acr = get_or b 15 0;
      pcr = get_or b 16 0;
      flags = get_or b 17 0;
      enables = get_or b 18 0;
      pulses = get_or b 19 0;
    }

-- The same, opened only where a proof asks for it.
unfoldable pub via_of : List ℕ → Via
via_of b = via_fields b

-- Whether these are the very bytes of the VIA that they stand for.
abbrev pub via_exact : List ℕ → Bool
via_exact b = same_bytes (via_bytes (via_of b)) b

-- What the struct's type says of its numbers.
abbrev pub ViaTyped : Via → Type 0
ViaTyped v = (v.t1.counter < 65536) × (v.t2.counter < 65536)
