-- Laws of the disk lines: the byte and its eight levels say the same, what an access leaves, and the sense address is one of the 32.
use mathlib.Core.Path.{◌≡◌, refl, ap}
use Prim.Native.Nat.{ℕ, zero, suc, ◌+◌, ◌-◌, ◌*◌, ◌/◌, ◌%◌, ◌^◌, ◌≤◌, ◌<◌}
use mathlib.Core.List.{List}
use native.Mathlib.Omega.{arith}
use Rattle.disk_lines.specs.Lines.{line_levels, lines_of, with_level, after_access, sense_at}
use Rattle.disk_lines.specs.declared.DiskLines.{DiskLines}

-- ---- the byte and its levels

-- Digit by digit.
sum : (b x₁ x₂ x₃ x₄ x₅ x₆ x₇ d₀ d₁ d₂ d₃ d₄ d₅ d₆ d₇ : ℕ) → b ≡ d₀ + 2 * x₁ → x₁ ≡ d₁ + 2 * x₂ → x₂ ≡ d₂ + 2 * x₃ → x₃ ≡ d₃ + 2 * x₄
    → x₄ ≡ d₄ + 2 * x₅ → x₅ ≡ d₅ + 2 * x₆ → x₆ ≡ d₆ + 2 * x₇ → x₇ ≡ d₇
    → d₀ + 2 * d₁ + 4 * d₂ + 8 * d₃ + 16 * d₄ + 32 * d₅ + 64 * d₆ + 128 * d₇ ≡ b
sum b x₁ x₂ x₃ x₄ x₅ x₆ x₇ d₀ d₁ d₂ d₃ d₄ d₅ d₆ d₇ e₀ e₁ e₂ e₃ e₄ e₅ e₆ e₇ = omega arith

half : (n : ℕ) → n ≡ n % 2 % 2 + 2 * (n / 2)
half n = omega arith

-- The lines that have the levels of d are d.
pub lines-back : (d : DiskLines) → d.lines < 256 → lines_of (line_levels d) ≡ d
unfolding lines_of line_levels
lines-back d h = ap (λ (b : ℕ). record { lines = b }) (go d.lines h)
  where
    go : (b : ℕ) → b < 256
        → b % 2 % 2 + 2 * (b / 2 % 2 % 2) + 4 * (b / 4 % 2 % 2) + 8 * (b / 8 % 2 % 2) + 16 * (b / 16 % 2 % 2) + 32 * (b / 32 % 2 % 2) + 64 * (b / 64 % 2 % 2)
        + 128 * (b / 128 % 2 % 2)
        ≡ b
    go b h =
        sum b (b / 2) (b / 4) (b / 8) (b / 16) (b / 32) (b / 64) (b / 128) _ _ _ _ _ _ _ _ (half b) (omega arith) (omega arith) (omega arith) (omega arith) (omega arith) (omega arith) (omega arith)

pub lines-width : (l : List ℕ) → (lines_of l).lines < 256
unfolding lines_of
lines-width l = omega arith

-- ---- an access

-- A level is put in and taken out within a byte.
pub bit_in : (i b v : ℕ) → i < 8 → b < 256 → v < 2
    → ((b / 2 ^ i % 2 * 2 ^ i) % 256 ≡ b / 2 ^ i % 2 * 2 ^ i) × ((v * 2 ^ i) % 256 ≡ v * 2 ^ i) × (b / 2 ^ i % 2 * 2 ^ i ≤ b)
    × (b - b / 2 ^ i % 2 * 2 ^ i + v * 2 ^ i < 256)
bit_in zero b v h k l = (omega arith, omega arith, omega arith, omega arith)
bit_in (suc zero) b v h k l = (omega arith, omega arith, omega arith, omega arith)
bit_in (suc (suc zero)) b v h k l = (omega arith, omega arith, omega arith, omega arith)
bit_in (suc (suc (suc zero))) b v h k l = (omega arith, omega arith, omega arith, omega arith)
bit_in (suc (suc (suc (suc zero)))) b v h k l = (omega arith, omega arith, omega arith, omega arith)
bit_in (suc (suc (suc (suc (suc zero))))) b v h k l = (omega arith, omega arith, omega arith, omega arith)
bit_in (suc (suc (suc (suc (suc (suc zero)))))) b v h k l = (omega arith, omega arith, omega arith, omega arith)
bit_in (suc (suc (suc (suc (suc (suc (suc zero))))))) b v h k l = (omega arith, omega arith, omega arith, omega arith)
bit_in (suc (suc (suc (suc (suc (suc (suc (suc (i))))))))) b v h k l = absurd (omega arith)

-- Each location at a byte whose lines differ: the line's own bit alone, on for an odd location, off for an even one.
pub accesses : ((after_access 1 (record { lines = 0xA4 })).lines ≡ 0xA5) × ((after_access 2 (record { lines = 0x5A })).lines ≡ 0x58)
    × ((after_access 5 (record { lines = 0xA1 })).lines ≡ 0xA5) × ((after_access 7 (record { lines = 0x25 })).lines ≡ 0x2D)
    × ((after_access 8 (record { lines = 0x5A })).lines ≡ 0x4A) × ((after_access 11 (record { lines = 0x05 })).lines ≡ 0x25)
    × ((after_access 12 (record { lines = 0xFF })).lines ≡ 0xBF) × ((after_access 15 (record { lines = 0x25 })).lines ≡ 0xA5)
    × ((after_access 15 (record { lines = 0xA5 })).lines ≡ 0xA5) × ((after_access 14 (record { lines = 0x25 })).lines ≡ 0x25)
unfolding after_access with_level
accesses = (refl, refl, refl, refl, refl, refl, refl, refl, refl, refl)

-- ---- the sense

-- CA2, CA1 and CA0 as a number.
three : (b x₁ x₂ x₃ d₀ d₁ d₂ m : ℕ) → b ≡ d₀ + 2 * x₁ → x₁ ≡ d₁ + 2 * x₂ → x₂ ≡ d₂ + 2 * x₃ → b ≡ m + 8 * x₃ → m ≡ 4 * d₂ + 2 * d₁ + d₀
three b x₁ x₂ x₃ d₀ d₁ d₂ m e₀ e₁ e₂ e₃ = omega arith

pub eights : (b sel : ℕ) → 16 * (b / 32 % 2) + (2 * (b % 8) + sel) ≡ 16 * (b / 32 % 2) + (8 * (b / 4 % 2) + 4 * (b / 2 % 2) + 2 * (b % 2) + sel)
eights b sel =
    ap (λ (n : ℕ). 16 * (b / 32 % 2) + n)
    (go (b % 8) (b % 2) (b / 2 % 2) (b / 4 % 2) (three b (b / 2) (b / 4) (b / 8) (b % 2) (b / 2 % 2) (b / 4 % 2) (b % 8) (omega arith) (omega arith) (omega arith) (omega arith)))
  where
    go : (m d₀ d₁ d₂ : ℕ) → m ≡ 4 * d₂ + 2 * d₁ + d₀ → 2 * m + sel ≡ 8 * d₂ + 4 * d₁ + 2 * d₀ + sel
    go m d₀ d₁ d₂ e = omega arith

pub sense-below : (d : DiskLines) (sel : ℕ) → sel < 2 → sense_at d sel < 32
unfolding sense_at
sense-below d sel l = omega arith
