-- What is known where a reader's step gave something.
use Rattle.std.proofs.Common.{◌≡◌, Bool, true, false, cond, Option, Some, None, refl}
use Rattle.vg_small.specs.Reader.{◌>>=◌}

pub some_is : {A : Type 0} {x y : A} → Some x ≡ Some y → x ≡ y
some_is e = cc

-- where a second step gave something, so did the first
pub bind_some : {A B : Type 0} (r : Option A) (f : A → Option B) {y : B} → (r >>= f) ≡ Some y → (x : A) × (r ≡ Some x) × (f x ≡ Some y)
bind_some None f e = absurd (cc)
bind_some (Some x) f e = (x, refl, e)

-- where a choice gave something, its test held, or failed
pub chosen : {A : Type 0} (b : Bool) {r : Option A} {y : A} → cond b r None ≡ Some y → (b ≡ true) × (r ≡ Some y)
chosen true e = (refl, e)
chosen false e = absurd (cc)

pub refused : {A : Type 0} (b : Bool) {r : Option A} {y : A} → cond b None r ≡ Some y → (b ≡ false) × (r ≡ Some y)
refused true e = absurd (cc)
refused false e = (refl, e)
