-- Worked examples, computed: the chip's store after some entries, and what the history says, side by side. Every list has the newest first.
use mathlib.Core.Path.{◌≡◌, refl}
use mathlib.Core.Bool.{Bool, true, false, not}
use mathlib.Core.List.{List, [], ◌∷◌, ◌++◌}
use mathlib.Core.Option.{none, some}
use Prim.Native.Nat.{ℕ, zero, suc, ◌-◌, ◌/◌, ◌%◌, ◌^◌}
use lib.Dec.{eqb}
use lib.ListN.{get_or}
use Rattle.clock_spec.specs.Patterns.{meant, second_meant}
use Rattle.octets.specs.Octets.{replace}
use Rattle.clock_spec.specs.Shared.{Event, quiet, second, off}
use Rattle.clock_spec.specs.Store.{with_protect, fetch, put, act}
use Rattle.clock_spec.specs.Phase.{between, hear}
use Rattle.clock.specs.Step.{with_store, fresh_clock, next, acts, step_wires}
use Rattle.clock_spec.specs.declared.Chip.{Chip}
use Rattle.clock_spec.specs.declared.Chip.TheVariants.{First, Later}
use Rattle.clock_spec.specs.declared.Bytes.TheVariants.{One, Two}
use Rattle.clock_spec.specs.declared.Phase.TheVariants.{Listening}
use Rattle.clock_spec.specs.declared.Wires.{Wires}
use Rattle.clock.specs.declared.Clock.{Clock}
use Rattle.history.specs.History.{Entry, History, wires_at, rises, ending_at, protect_at, ending_clear, last, cell_at, test_at, seconds_at}
use Rattle.history.specs.Start.{start_of, undriven, fresh_start}
use Rattle.history.specs.Demand3.{clock_after, store_after}

-- ---- entries

abbrev at : Bool → Bool → Bool → Event → Entry
at e c d v = record { wires = record { enable = e; dataclock = c; dataline = d }; event = v }

abbrev up : List Entry
up = at true true true quiet ∷ []

abbrev down : List Entry
down = at false true true quiet ∷ []

-- A bit sent: data-clock low, then high.
abbrev one : Bool → List Entry
one b = at false true b quiet ∷ at false false b quiet ∷ []

-- The lowest n bits of a byte.
abbrev bits : ℕ → ℕ → List Entry
bits zero b = []
bits (suc n) b = one (eqb (b % 2) 1) ++ bits n (b / 2)

-- A whole transaction: a command, and a byte to it.
abbrev send : ℕ → ℕ → List Entry
send c b = up ++ bits 8 b ++ bits 8 c ++ down

-- The high n bits of the byte only, and enable up.
abbrev part : ℕ → ℕ → ℕ → List Entry
part n c b = up ++ bits n (b / 2 ^ (8 - n)) ++ bits 8 c ++ down

-- Two command bytes, and the high n bits of a byte to them.
abbrev long : ℕ → ℕ → ℕ → ℕ → List Entry
long n c d b = bits n (b / 2 ^ (8 - n)) ++ bits 8 d ++ bits 8 c ++ down

-- ---- the two sides, from the fresh machine

abbrev chip_cell : Chip → ℕ → History → ℕ
chip_cell k i h = get_or (store_after (fresh_clock k) undriven h).cells i 0

abbrev told_cell : Chip → ℕ → History → ℕ
told_cell k i h = cell_at (fresh_start k) i h

-- The cell i is b by both.
abbrev Cell-of : Chip → ℕ → History → ℕ → Type 0
Cell-of k i h b = (chip_cell k i h ≡ b) × (told_cell k i h ≡ b)

abbrev Cell-is : ℕ → History → ℕ → Type 0
Cell-is i h b = Cell-of First i h b

abbrev Seconds-are : History → ℕ → Type 0
Seconds-are h n = ((store_after (fresh_clock First) undriven h).seconds ≡ n) × (seconds_at (fresh_start First) h ≡ n)

-- $41 $AA up to the twelfth rise, then a power cut of 5 seconds, then four rises more.
abbrev cut_short : List Entry
cut_short = up ++ bits 4 0xA ++ (at true true true (off 5) ∷ []) ++ bits 4 0xA ++ bits 8 0x41 ++ down

-- Enable, data-clock and data made by directions alone: every output bit is 0, so a line is 0 while it is driven and undriven, 1, while it is not.
abbrev drive : Bool → Bool → Bool → Entry
drive e c d = at (not e) (not c) (not d) quiet

abbrev drive_bits : ℕ → ℕ → List Entry
drive_bits zero b = []
drive_bits (suc n) b = drive true false (eqb (b % 2) 0) ∷ drive true true (eqb (b % 2) 0) ∷ drive_bits n (b / 2)

abbrev by_directions : List Entry
by_directions = drive false false false ∷ drive_bits 8 0xAA ++ drive_bits 8 0x41 ++ (drive true false false ∷ [])

-- The last rise before enable goes up, and data-clock high again in the item that drops enable: S10.
abbrev together : List Entry
together = at false true true quiet ∷ at true false true quiet ∷ []

-- A state amid $41 $AA: the command and four data bits are taken; the seconds are one before they wrap, and protect is clear.
abbrev amid : Clock
amid = record {
  phase = Listening (One 0x41) 4 0xA;
  store = record { chip = First; cells = (fresh_clock First).store.cells; seconds = 4294967295; protect = false; test = 0x11 };
}

-- The same with protect set.
abbrev amid_protected : Clock
amid_protected = with_store amid (with_protect amid.store true)

abbrev low : Wires
low = record { enable = false; dataclock = true; dataline = true }

-- Four bits more, a second, and a power cut of 7 seconds.
abbrev goes_on : List Entry
goes_on = at true true true (off 7) ∷ at false true false second ∷ bits 4 0xA

-- The later chip amid $3F $7C $AA: both command bytes and four data bits are taken.
abbrev amid_later : Clock
amid_later = record {
  phase = Listening (Two 0x3F 0x7C) 4 0xA;
  store = record { chip = Later; cells = (fresh_clock Later).store.cells; seconds = 4294967295; protect = false; test = 0x11 };
}

pub record Examples : Type 0 where
  pub write : Cell-is 0 (send 0x41 0xAA) 0xAA
  pub fifteen_rises : Cell-is 0 (part 7 0x41 0xAA) 0
  pub under_protect : Cell-is 0 (send 0x41 0xAA ++ send 0x35 0x80) 0
  pub cleared_again : Cell-is 0 (send 0x41 0xAA ++ send 0x35 0x7F ++ send 0x35 0x80) 0xAA
  pub power_cut_cell : Cell-is 0 cut_short 0
  pub power_cut_seconds : Seconds-are cut_short 5
  pub directions : Cell-is 0 by_directions 0xAA
  pub half_sent : Cell-is 0 (part 4 0x41 0x55 ++ send 0x41 0xAA) 0xAA
  pub no_bit : rises (fresh_start First) together ≡ some []
  -- Seconds byte 1 is written with $12, under protect with $34 not; 3 seconds pass.
  pub seconds_written : Seconds-are (at true true true (off 2) ∷ send 0x05 0x34 ++ send 0x35 0x80 ++ (at true true true second ∷ send 0x05 0x12)) 0x1203
  pub amid_cell : (get_or (store_after amid low goes_on).cells 0 0 ≡ 0xAA) × (cell_at (start_of amid low) 0 goes_on ≡ 0xAA)
  pub amid_seconds : ((store_after amid low goes_on).seconds ≡ 7) × (seconds_at (start_of amid low) goes_on ≡ 7)
  pub amid_test : ((store_after amid low goes_on).test ≡ 0x11) × (test_at (start_of amid low) goes_on ≡ 0x11)
  -- "Protect set in the image counts like a complete write that set it."
  pub protected_cell : (get_or (store_after amid_protected low goes_on).cells 0 0 ≡ 0) × (cell_at (start_of amid_protected low) 0 goes_on ≡ 0)
  pub protected_stays : ((store_after amid_protected low goes_on).protect ≡ true) × (protect_at (start_of amid_protected low) goes_on ≡ true)
  -- W-206: $3F $7C $AA is complete at the 24th rise and not at the 23rd; $3F $7D never.
  pub rise24 : Cell-of Later 0xFF (long 8 0x3F 0x7C 0xAA) 0xAA
  pub rise23 : Cell-of Later 0xFF (long 7 0x3F 0x7C 0xAA) 0
  pub other_form : Cell-of Later 0xFF (long 8 0x3F 0x7D 0xAA) 0
  pub no_sixteenth : ending_at (fresh_start Later) (bits 8 0x7C ++ bits 8 0x3F ++ down) ≡ none
  pub same_cell : Cell-of Later 0 (up ++ long 8 0x38 0x00 0xAA ++ send 0x41 0x55) 0xAA
  pub first_chip : Cell-is 0x0F (long 8 0x3F 0x7C 0xAA) 0
  pub amid_later_cell : (get_or (store_after amid_later low goes_on).cells 0xFF 0 ≡ 0xAA) × (cell_at (start_of amid_later low) 0xFF goes_on ≡ 0xAA)

pub examples : Examples
unfolding clock_after step_wires between next acts hear act put meant second_meant fetch wires_at rises ending_at protect_at ending_clear last seconds_at replace
examples = record {
  write = (refl, refl);
  fifteen_rises = (refl, refl);
  under_protect = (refl, refl);
  cleared_again = (refl, refl);
  power_cut_cell = (refl, refl);
  power_cut_seconds = (refl, refl);
  directions = (refl, refl);
  half_sent = (refl, refl);
  no_bit = refl;
  seconds_written = (refl, refl);
  amid_cell = (refl, refl);
  amid_seconds = (refl, refl);
  amid_test = (refl, refl);
  protected_cell = (refl, refl);
  protected_stays = (refl, refl);
  rise24 = (refl, refl);
  rise23 = (refl, refl);
  other_form = (refl, refl);
  no_sixteenth = refl;
  same_cell = (refl, refl);
  first_chip = (refl, refl);
  amid_later_cell = (refl, refl);
}
