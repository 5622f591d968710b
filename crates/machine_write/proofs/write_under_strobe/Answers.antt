use Rattle.std.proofs.Common.{ℕ, eqb, sym, ap, ◌∙◌}
use mathlib.Core.Path.{ap₂}
use Rattle.via.specs.declared.Via.{Via}
use Rattle.disk_spec.specs.declared.Strobe.{Strobe}
use Rattle.disk_spec.specs.Watched.{watched_of}
use Rattle.disk_spec.specs.Drives.{with_strobe}
use Rattle.machine_spec.specs.Machine.{with_via, with_drives, strobe_levels}
use Rattle.machine_spec.specs.Stages.{after_strobe}
use Rattle.machine_write.specs.Values.{moves_sel}
use Rattle.machine_write.proofs.Apart.{lit-spoilt, lit-kept}
use Rattle.machine_write.proofs.write_under_strobe.Goals as goal

pub returns-then-moves_sel : goal.returns-then-moves_sel
unfolding watched_of
returns-then-moves_sel c =
    let m = c.args.machine.now in
    let r = c.args.register in
    let vs = c.args.values.now in
    let moved = ap (λ (n : ℕ). moves_sel r vs m.via.ports (eqb n 1)) (sym c.sel_of.ensures.0) ∙ sym c.moves_sel.ensures ∙ c.if-moves_sel.true in
    ap₂ (λ (x : Via) (s : Strobe). with_drives (with_via m x) (with_strobe m.drives s)) c.via_after-machine.ensures c.off-spoilt.ensures
    ∙ sym (lit-spoilt m r vs c.requires.no_wire c.requires.phase c.requires.some_values c.requires.lit moved)

pub returns-else-moves_sel : goal.returns-else-moves_sel
unfolding watched_of
returns-else-moves_sel c =
    let m = c.args.machine.now in
    let r = c.args.register in
    let vs = c.args.values.now in
    let still = ap (λ (n : ℕ). moves_sel r vs m.via.ports (eqb n 1)) (sym c.sel_of.ensures.0) ∙ sym c.moves_sel.ensures ∙ c.if-moves_sel.false in
    c.strobe.ensures ∙ ap (λ (x : Via). after_strobe (strobe_levels m) (with_via m x)) c.via_after-machine.ensures
    ∙ lit-kept m r vs c.requires.no_wire c.requires.phase c.requires.some_values c.requires.lit still
