-- What a test that was taken, or was not, says of its parts. Assumes nothing.
use mathlib.Core.Path.{◌≡◌, refl, sym, ◌∙◌}
use mathlib.Core.Bool.{Bool, true, false, ◌&&◌, ◌||◌, beq, false≢true, true≢false}

pub beq-refl : (b : Bool) → beq b b ≡ true
beq-refl true = refl
beq-refl false = refl

pub beq-eq : (a b : Bool) → beq a b ≡ true → a ≡ b
beq-eq true true h = refl
beq-eq true false h = absurd (false≢true h)
beq-eq false true h = absurd (false≢true h)
beq-eq false false h = refl

pub or-false : (a b : Bool) → (a || b) ≡ false → (a ≡ false) × (b ≡ false)
or-false true b h = absurd (true≢false h)
or-false false b h = (refl, h)

pub or_true_right : (a b : Bool) → b ≡ true → (a || b) ≡ true
or_true_right true b h = refl
or_true_right false b h = h

pub or_cases : (a b : Bool) {C : Type 0} → (a || b) ≡ true → (a ≡ true → C) → (b ≡ true → C) → C
or_cases true b h f g = f refl
or_cases false b h f g = g h

pub and-true : (a b : Bool) → (a && b) ≡ true → (a ≡ true) × (b ≡ true)
and-true true b h = (refl, h)
and-true false b h = absurd (false≢true h)

pub and_both : (a b : Bool) → a ≡ true → b ≡ true → (a && b) ≡ true
and_both true b e f = f
and_both false b e f = e

pub and-false-right : (a b : Bool) → a ≡ true → (a && b) ≡ false → b ≡ false
and-false-right true b h f = f
and-false-right false b h f = absurd (false≢true h)

pub and-false-left : (a b : Bool) → b ≡ true → (a && b) ≡ false → a ≡ false
and-false-left true b h f = absurd (true≢false (sym h ∙ f))
and-false-left false b h f = refl

pub refuted : (a : Bool) → (a ≡ true → ⊥) → a ≡ false
refuted true h = absurd (h refl)
refuted false h = refl

pub bool-ext : (a b : Bool) → (a ≡ true → b ≡ true) → (b ≡ true → a ≡ true) → a ≡ b
bool-ext true true f g = refl
bool-ext true false f g = absurd (false≢true (f refl))
bool-ext false true f g = absurd (false≢true (g refl))
bool-ext false false f g = refl

pub or_swap : (a b c : Bool) → (a || (b || c)) ≡ (b || (a || c))
or_swap true true c = refl
or_swap true false c = refl
or_swap false b c = refl
