-- What a shell may rely on: an image stays one, a refusal leaves its bytes, a wait may be cut anywhere.
use Prim.Native.Nat.{ℕ, ◌+◌, ◌-◌, ◌≤◌}
use Rattle.std.specs.Prelude.{Err}
use mathlib.Core.Path.{◌≡◌, refl, sym, ap, ◌∙◌}
use mathlib.Core.Bool.{Bool, true, false, cond}
use mathlib.Core.List.{List}
use native.Mathlib.Omega.{arith}
use lib.ListN.{length, drop, length-drop}
use lib.Seq.{length-take-le}
use lib.Dec.{eqb}
use Rattle.octets.specs.Octets.{Bytes}
use Rattle.keyboard.specs.declared.Keyboard.{Keyboard}
use Rattle.refusal.specs.declared.Refusal.TheVariants.{NotAccepted}
use Rattle.keyboard.specs.Numbers.{refusal_of}
use Rattle.keyboard.specs.Steps.{Stepped, respond, wait_of}
use Rattle.keyboard.proofs.Codes.{parts}
use Rattle.keyboard_history.specs.Events.{Event, wait, step_of, or_else}
use Rattle.keyboard_history.proofs.Cases.{Good, fair}
use Rattle.keyboard_history.proofs.Waits.{waits-add, refusal-keeps}
use Rattle.keyboard_image.specs.Image.{image_of, keyboard_of, valid_image}
use Rattle.keyboard_image.proofs.Round.{valid-is, saved-valid, restore-saved, saved-restored}
use Rattle.keyboard_entry.specs.Calls.{call_of, call_image}

-- the keyboard of a valid image is in its ranges
good : (s : List ℕ) → valid_image s ≡ true → Good (keyboard_of s)
unfolding keyboard_of
good s v =
    let w = valid-is s v in
    let l : length s ≡ 18 = w.long in
    let d : length (drop 6 s) ≡ length s - 6 = length-drop 6 s in
    record { ranges = w.state; eight = length-take-le 8 (drop 6 s) (omega arith) }

-- on a valid image a call is the step, on others nothing
pub called : (f : Keyboard → Stepped) (s : List ℕ) → valid_image s ≡ true → call_of f s ≡ f (keyboard_of s)
unfolding call_of
called f s v = ap (λ (b : Bool). cond b (f (keyboard_of s)) (respond (keyboard_of s) (Err NotAccepted))) v

pub uncalled : (f : Keyboard → Stepped) (s : List ℕ) → valid_image s ≡ false → call_of f s ≡ respond (keyboard_of s) (Err NotAccepted)
unfolding call_of
uncalled f s v = ap (λ (b : Bool). cond b (f (keyboard_of s)) (respond (keyboard_of s) (Err NotAccepted))) v

pub image-of : (f : Keyboard → Stepped) (s : List ℕ) → valid_image s ≡ true → call_image f s ≡ image_of (f (keyboard_of s)).keyboard
unfolding call_image
image-of f s v = ap (λ (b : Bool). cond b (image_of (call_of f s).keyboard) s) v ∙ ap (λ (t : Stepped). image_of t.keyboard) (called f s v)

pub image-kept : (f : Keyboard → Stepped) (s : List ℕ) → valid_image s ≡ false → call_image f s ≡ s
unfolding call_image
image-kept f s v = ap (λ (b : Bool). cond b (image_of (call_of f s).keyboard) s) v

-- An image that is valid before a call is valid after it.
pub valid-stays : (e : Event) (s : List ℕ) → valid_image s ≡ true → valid_image (call_image (step_of e) s) ≡ true
valid-stays e s v =
    let g = (fair e (keyboard_of s) (good s v)).good in
    ap valid_image (image-of (step_of e) s v) ∙ saved-valid (step_of e (keyboard_of s)).keyboard g.eight g.ranges

-- A call that is refused leaves the bytes of the image.
pub refusal-leaves : (e : Event) (s : List ℕ) → Bytes s → eqb (refusal_of (call_of (step_of e) s).response) 0 ≡ false → call_image (step_of e) s ≡ s
refusal-leaves e s b r = by (valid_image s) refl
  where
    by : (v : Bool) → valid_image s ≡ v → call_image (step_of e) s ≡ s
    by true v =
        let n = sym (ap (λ (t : Stepped). eqb (refusal_of t.response) 0) (called (step_of e) s v)) ∙ r in
        image-of (step_of e) s v ∙ ap image_of (refusal-keeps e (keyboard_of s) n) ∙ saved-restored s b v
    by false v = image-kept (step_of e) s v

-- A wait of a + b ticks leaves what one of a and then one of b leave, and says what these say together.
again : (a : ℕ) (s : List ℕ) → valid_image s ≡ true → keyboard_of (call_image (wait_of a) s) ≡ (wait_of a (keyboard_of s)).keyboard
unfolding step_of
again a s v =
    let g = (fair (wait a) (keyboard_of s) (good s v)).good in
    let n : (wait_of a (keyboard_of s)).keyboard.left ≤ 195840 = (parts _ g.ranges).soon in
    ap keyboard_of (image-of (wait_of a) s v) ∙ restore-saved (wait_of a (keyboard_of s)).keyboard g.eight (omega arith)

stays : (a : ℕ) (s : List ℕ) → valid_image s ≡ true → valid_image (call_image (wait_of a) s) ≡ true
unfolding step_of
stays a s v = valid-stays (wait a) s v

pub waits-cut : (a b : ℕ) (s : List ℕ)
    → (call_image (wait_of (a + b)) s ≡ call_image (wait_of b) (call_image (wait_of a) s))
    × ((call_of (wait_of (a + b)) s).response ≡ or_else (call_of (wait_of a) s).response (call_of (wait_of b) (call_image (wait_of a) s)).response)
waits-cut a b s = by (valid_image s) refl
  where
    by : (v : Bool) → valid_image s ≡ v
        → (call_image (wait_of (a + b)) s ≡ call_image (wait_of b) (call_image (wait_of a) s))
        × ((call_of (wait_of (a + b)) s).response ≡ or_else (call_of (wait_of a) s).response (call_of (wait_of b) (call_image (wait_of a) s)).response)
    by true v =
        let k = keyboard_of s in
        let second : call_of (wait_of b) (call_image (wait_of a) s) ≡ wait_of b (wait_of a k).keyboard = called (wait_of b) (call_image (wait_of a) s) (stays a s v) ∙ ap (wait_of b) (again a s v) in
        let image : call_image (wait_of b) (call_image (wait_of a) s) ≡ image_of (wait_of b (wait_of a k).keyboard).keyboard = image-of (wait_of b) (call_image (wait_of a) s) (stays a s v) ∙ ap (λ (q : Keyboard). image_of (wait_of b q).keyboard) (again a s v) in
        let first = called (wait_of a) s v in (
          image-of (wait_of (a + b)) s v ∙ ap (λ (t : Stepped). image_of t.keyboard) (waits-add a b k) ∙ sym image,
          ap (λ (t : Stepped). t.response) (called (wait_of (a + b)) s v ∙ waits-add a b k)
              ∙ ap (λ (t : Stepped). or_else (wait_of a k).response t.response) (sym second)
              ∙ ap (λ (t : Stepped). or_else t.response (call_of (wait_of b) (call_image (wait_of a) s)).response) (sym first),
        )
    by false v =
        let same = image-kept (wait_of a) s v in (
          image-kept (wait_of (a + b)) s v ∙ sym (ap (call_image (wait_of b)) same ∙ image-kept (wait_of b) s v),
          ap (λ (t : Stepped). t.response) (uncalled (wait_of (a + b)) s v) ∙ ap (λ (t : Stepped). or_else t.response (call_of (wait_of b) (call_image (wait_of a) s)).response) (sym (uncalled (wait_of a) s v)),
        )
