-- The disk lines: document 01, "Disk lines". A line is 0 (off) or 1 (on); the eight are kept as the byte of an answer.
use Rattle.std.specs.Prelude.{ℕ, ◌+◌, ◌-◌, ◌*◌, ◌/◌, ◌%◌, ◌^◌, cond, ◌&&◌, List, [], ◌∷◌, eqb, get_or}
use Rattle.disk_lines.specs.declared.DiskLines.{DiskLines}
use Rattle.disk_lines.specs.declared.Line.{Line}
use Rattle.disk_lines.specs.declared.Line.TheVariants.{Ca0, Ca1, Ca2, Lstrb, Enable, Select, Q6, Q7}

-- ---- the byte: "The disk-line byte has CA0, CA1, CA2, LSTRB, ENABLE, SELECT, Q6, Q7 in bits 0 to 7."

abbrev pub ca0 : DiskLines → ℕ
ca0 d = d.lines % 2

abbrev pub ca1 : DiskLines → ℕ
ca1 d = d.lines / 2 % 2

abbrev pub ca2 : DiskLines → ℕ
ca2 d = d.lines / 4 % 2

abbrev pub lstrb : DiskLines → ℕ
lstrb d = d.lines / 8 % 2

abbrev pub enable : DiskLines → ℕ
enable d = d.lines / 16 % 2

abbrev pub select : DiskLines → ℕ
select d = d.lines / 32 % 2

abbrev pub q6 : DiskLines → ℕ
q6 d = d.lines / 64 % 2

abbrev pub q7 : DiskLines → ℕ
q7 d = d.lines / 128 % 2

-- The level of a line by its name.
abbrev pub level_of : Line → DiskLines → ℕ
level_of Ca0 d = ca0 d
level_of Ca1 d = ca1 d
level_of Ca2 d = ca2 d
level_of Lstrb d = lstrb d
level_of Enable d = enable d
level_of Select d = select d
level_of Q6 d = q6 d
level_of Q7 d = q7 d

-- The eight levels, "in the order CA0, CA1, CA2, LSTRB, ENABLE, SELECT, Q6, Q7", and the lines that have them.
unfoldable pub line_levels : DiskLines → List ℕ
line_levels d = ca0 d ∷ ca1 d ∷ ca2 d ∷ lstrb d ∷ enable d ∷ select d ∷ q6 d ∷ q7 d ∷ []

abbrev level_at : List ℕ → ℕ → ℕ
level_at l i = get_or l i 0 % 2

unfoldable pub lines_of : List ℕ → DiskLines
lines_of l =
    record {
      lines = level_at l 0 + 2 * level_at l 1 + 4 * level_at l 2 + 8 * level_at l 3 + 16 * level_at l 4 + 32 * level_at l 5 + 64 * level_at l 6
          + 128 * level_at l 7;
    }

-- All lines off: fresh, and after a reset.
unfoldable pub lines_off : DiskLines
lines_off = record { lines = 0 }

-- ---- an access

-- The byte with line i at this level: its old level taken out, the new one put in.
unfoldable pub with_level : ℕ → ℕ → ℕ → ℕ
with_level lines i level = lines - lines / 2 ^ i % 2 * 2 ^ i + level * 2 ^ i

-- "Any access, read or write, first sets line k/2 to off for even k, on for odd."
unfoldable pub after_access : ℕ → DiskLines → DiskLines
after_access k d = record { lines = with_level d.lines (k / 2) (k % 2) }

-- "Sense is register 8·CA2 + 4·CA1 + 2·CA0 + SEL of the selected drive (SELECT on is external)": its place among the 16 levels of the internal drive and, after them, the 16 of the external one.
unfoldable pub sense_at : DiskLines → ℕ → ℕ
sense_at d sel = 16 * select d + (8 * ca2 d + 4 * ca1 d + 2 * ca0 d + sel)

-- "Or 1 while ENABLE is off."
abbrev pub sense_line : ℕ → DiskLines → ℕ
sense_line sense d = cond (eqb (enable d) 0) 1 sense

-- "A read of k=14 with Q6 on gives the sense in bit 7 and zeros; every other IWM read gives $FF." The lines are those after the access.
unfoldable pub read_line : ℕ → ℕ → DiskLines → ℕ
read_line k sense d = cond (eqb k 14 && eqb (q6 d) 1) (128 * sense_line sense d) 255
