use Rattle.std.proofs.Common.{ℕ, ◌≡◌, ◌+◌, List, [], ◌∷◌, ◌++◌, length, take, drop, get_or, set, length-append, length-drop, sym, ap, ◌∙◌, arith, rules}
use Rattle.std.proofs.Math.Nat.{le_of_eq}
use Rattle.std.proofs.lemmas.List.{take_all}
use Rattle.octets.specs.Octets.{put_at}
use Rattle.clock_spec.specs.declared.Chip.{Chip}
use Rattle.image_spec.specs.Layout.{phase_length, cells_length, more_cells, tail_length}
use Rattle.image_spec.specs.ClockLayout.{second_byte, tail_room, tail_bytes}
use Rattle.image_layout.proofs.Laws.{put-tail, second-last}
use Rattle.image_layout.proofs.clock_layout.put_tail.Goals as goal

pub returns-in-Later : goal.returns-in-Later
unfolding tail_bytes
returns-in-Later c =
    let a = c.args in
    let cells : List ℕ = a.cells.now in
    let long : length cells ≡ 256 = search rules in
    let all : List ℕ = drop cells_length cells in
    let n : length all ≡ more_cells = omega (arith, length-drop cells_length cells, long) in
    let e : take more_cells all ≡ all = take_all more_cells all (le_of_eq n) in
    let m : length (tail_room a.phase cells) ≡ more_cells + 1 = omega (arith, length-append all (second_byte a.phase ∷ []), n) in
    let room : length a.tail.now ≡ more_cells + 1 = c.requires ∙ ap tail_length c.in-Later.is in
    let b : get_or c.to_bytes-phase.result phase_length 0 ≡ second_byte a.phase = ap (λ (x : List ℕ). get_or x phase_length 0) c.to_bytes-phase.ensures ∙ second-last a.phase in
    ap (λ (d : List ℕ). set d more_cells (get_or c.to_bytes-phase.result phase_length 0)) (c.copy.ensures ∙ ap (put_at a.tail.now 0) e)
    ∙ put-tail a.tail.now all (get_or c.to_bytes-phase.result phase_length 0) room n
    ∙ ap (λ (x : ℕ). all ++ (x ∷ [])) b
    ∙ sym (ap (λ (k : Chip). tail_bytes k a.phase cells) c.in-Later.is ∙ take_all (more_cells + 1) (tail_room a.phase cells) (le_of_eq m))
