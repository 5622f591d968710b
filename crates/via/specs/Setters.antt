-- Setters: a part of the VIA with one field changed and the others as they are.
use Rattle.std.specs.Prelude.{ℕ, Bool}
use Rattle.via.specs.declared.Ports.{Ports}
use Rattle.via.specs.declared.Timer1.{Timer1}
use Rattle.via.specs.declared.Timer2.{Timer2}
use Rattle.via.specs.declared.Via.{Via}

-- ---- T1
abbrev pub with_counter1 : Timer1 → ℕ → Timer1
with_counter1 s x = record { counter = x; low = s.low; high = s.high; armed = s.armed; due = s.due }

abbrev pub with_armed1 : Timer1 → Bool → Timer1
with_armed1 s x = record { counter = s.counter; low = s.low; high = s.high; armed = x; due = s.due }

abbrev pub with_due1 : Timer1 → Bool → Timer1
with_due1 s x = record { counter = s.counter; low = s.low; high = s.high; armed = s.armed; due = x }

-- ---- T2
abbrev pub with_counter2 : Timer2 → ℕ → Timer2
with_counter2 s x = record { counter = x; low = s.low; armed = s.armed }

abbrev pub with_armed2 : Timer2 → Bool → Timer2
with_armed2 s x = record { counter = s.counter; low = s.low; armed = x }

-- ---- the VIA
abbrev pub with_ports : Via → Ports → Via
with_ports s x = record { ports = x; t1 = s.t1; t2 = s.t2; sr = s.sr; acr = s.acr; pcr = s.pcr; flags = s.flags; enables = s.enables; pulses = s.pulses }

abbrev pub with_t1 : Via → Timer1 → Via
with_t1 s x = record { ports = s.ports; t1 = x; t2 = s.t2; sr = s.sr; acr = s.acr; pcr = s.pcr; flags = s.flags; enables = s.enables; pulses = s.pulses }

abbrev pub with_t2 : Via → Timer2 → Via
with_t2 s x = record { ports = s.ports; t1 = s.t1; t2 = x; sr = s.sr; acr = s.acr; pcr = s.pcr; flags = s.flags; enables = s.enables; pulses = s.pulses }

abbrev pub with_sr : Via → ℕ → Via
with_sr s x = record { ports = s.ports; t1 = s.t1; t2 = s.t2; sr = x; acr = s.acr; pcr = s.pcr; flags = s.flags; enables = s.enables; pulses = s.pulses }

abbrev pub with_acr : Via → ℕ → Via
with_acr s x = record { ports = s.ports; t1 = s.t1; t2 = s.t2; sr = s.sr; acr = x; pcr = s.pcr; flags = s.flags; enables = s.enables; pulses = s.pulses }

abbrev pub with_pcr : Via → ℕ → Via
with_pcr s x = record { ports = s.ports; t1 = s.t1; t2 = s.t2; sr = s.sr; acr = s.acr; pcr = x; flags = s.flags; enables = s.enables; pulses = s.pulses }

abbrev pub with_flags : Via → ℕ → Via
with_flags s x = record { ports = s.ports; t1 = s.t1; t2 = s.t2; sr = s.sr; acr = s.acr; pcr = s.pcr; flags = x; enables = s.enables; pulses = s.pulses }

abbrev pub with_enables : Via → ℕ → Via
with_enables s x = record { ports = s.ports; t1 = s.t1; t2 = s.t2; sr = s.sr; acr = s.acr; pcr = s.pcr; flags = s.flags; enables = x; pulses = s.pulses }

abbrev pub with_pulses : Via → ℕ → Via
with_pulses s x = record { ports = s.ports; t1 = s.t1; t2 = s.t2; sr = s.sr; acr = s.acr; pcr = s.pcr; flags = s.flags; enables = s.enables; pulses = x }
