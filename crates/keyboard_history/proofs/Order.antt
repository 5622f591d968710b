-- Codes come out in the order in which they came in, none twice and none lost.
use Prim.Native.Nat.{ℕ}
use mathlib.Core.Path.{◌≡◌, refl, sym, ap, ◌∙◌}
use mathlib.Core.List.{List, [], ◌∷◌, ◌++◌, append_assoc, append-nil}
use Rattle.keyboard.specs.declared.Keyboard.{Keyboard}
use Rattle.keyboard.specs.State.{codes_of, fresh_keyboard, all_zero, accepted_of}
use Rattle.keyboard_history.specs.Events.{Event, step_of, keyboard_after, response_to, code_in, codes_in, code_out, codes_out}
use Rattle.keyboard_history.proofs.Cases.{Good, fair}

-- "a state outside its ranges" is never reached from one in its ranges
pub good-after : (k : Keyboard) (es : List Event) → Good k → Good (keyboard_after k es)
unfolding keyboard_after
good-after k [] g = g
good-after k (e ∷ es) g = (fair e (keyboard_after k es) (good-after k es g)).good

-- The codes held at the start, then those that came in, are those that went out, then those held now: "in order", each once.
pub in_order : (k : Keyboard) (es : List Event) → Good k → codes_of k ++ codes_in k es ≡ codes_out k es ++ codes_of (keyboard_after k es)
unfolding keyboard_after codes_in codes_out
in_order k [] g = append-nil (codes_of k)
in_order k (e ∷ es) g =
    let i = in_order k es g in
    let f = (fair e (keyboard_after k es) (good-after k es g)).order in
    sym (append_assoc (codes_of k) (codes_in k es) (code_in e (response_to e k es)))
    ∙ ap (λ (cs : List ℕ). cs ++ code_in e (response_to e k es)) i
    ∙ append_assoc (codes_out k es) (codes_of (keyboard_after k es)) (code_in e (response_to e k es))
    ∙ ap (λ (cs : List ℕ). codes_out k es ++ cs) f
    ∙ sym (append_assoc (codes_out k es) (code_out (response_to e k es)) (codes_of (step_of e (keyboard_after k es)).keyboard))

-- The same from the making.
pub fresh-in-order : (model : ℕ) (es : List Event) → codes_in (fresh_keyboard model) es ≡ codes_out (fresh_keyboard model) es ++ codes_of (keyboard_after (fresh_keyboard model) es)
unfolding accepted_of codes_of all_zero
fresh-in-order model es = in_order (fresh_keyboard model) es (record { ranges = refl; eight = refl })
