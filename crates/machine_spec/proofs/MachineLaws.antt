-- What an accepted state gives, part by part.
use mathlib.Core.Path.{◌≡◌}
use mathlib.Core.Bool.{true, ◌&&◌}
use Rattle.levels.specs.Levels.{all_levels}
use Rattle.levels.proofs.Laws.{both, joined}
use Rattle.via.specs.Via.{accepted_via}
use Rattle.clock_spec.specs.Store.{unused_clear}
use Rattle.clock_spec.specs.Phase.{accepted_phase}
use Rattle.disk_spec.specs.Drives.{accepted_drives}
use Rattle.machine_spec.specs.declared.Machine.{Machine}
use Rattle.machine_spec.specs.Machine.{wires, strobe_levels, accepted_of, Levels}

-- The parts of an accepted state.
pub record Parts (m : Machine) : Type 0 where
  pub levels : Levels m
  pub via : accepted_via m.via ≡ true
  pub phase : accepted_phase m.clock.store.chip m.clock.phase (wires m).enable ≡ true
  pub unused : unused_clear m.clock.store ≡ true
  pub drives : accepted_drives (strobe_levels m) m.drives ≡ true

pub parts : (m : Machine) → accepted_of m ≡ true → Parts m
unfolding accepted_of
parts m h =
    let b = all_levels m.inputs in
    let s = all_levels m.sense in
    let v = accepted_via m.via in
    let k = accepted_phase m.clock.store.chip m.clock.phase (wires m).enable in
    let u = unused_clear m.clock.store in
    let g = accepted_drives (strobe_levels m) m.drives in
    let o = both (((b && s) && v) && (k && u)) g h in
    let p = both ((b && s) && v) (k && u) o.0 in
    let c = both k u p.1 in
    let q = both (b && s) v p.0 in
    record { levels = both b s q.0; via = q.1; phase = c.0; unused = c.1; drives = o.1 }

pub whole : (m : Machine) → Parts m → accepted_of m ≡ true
unfolding accepted_of
whole m h =
    let b = all_levels m.inputs in
    let s = all_levels m.sense in
    let v = accepted_via m.via in
    let k = accepted_phase m.clock.store.chip m.clock.phase (wires m).enable in
    let u = unused_clear m.clock.store in
    let g = accepted_drives (strobe_levels m) m.drives in
    joined (((b && s) && v) && (k && u)) g
    (joined ((b && s) && v) (k && u)
    (joined (b && s) v (joined b s h.levels.0 h.levels.1) h.via)
    (joined k u h.phase h.unused))
    h.drives
