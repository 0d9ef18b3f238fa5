-- What is true of a value, if there is one.
use Rattle.std.specs.Prelude.{Option, Some, None, option_and_then}
use Rattle.std.specs.Option.{option_map}

abbrev pub Given : {A : Type 0} → (A → Type 0) → Option A → Type 0
Given P None = Unit {0}
Given P (Some x) = P x

pub any_given : {A : Type 0} (o : Option A) → Given (λ (x : A). Unit {0}) o
any_given None = tt
any_given (Some x) = tt

pub then_given : {A B : Type 0} (P : A → Type 0) (Q : B → Type 0) (f : A → Option B) (o : Option A) → Given P o
    → ((x : A) → P x → Given Q (f x)) → Given Q (option_and_then f o)
then_given P Q f None g h = tt
then_given P Q f (Some x) g h = h x g

pub after_any : {A B : Type 0} (Q : B → Type 0) (f : A → Option B) (o : Option A) → ((x : A) → Given Q (f x)) → Given Q (option_and_then f o)
after_any Q f o h = then_given (λ x. Unit {0}) Q f o (any_given o) (λ x u. h x)

pub map_given : {A B : Type 0} (P : A → Type 0) (Q : B → Type 0) (f : A → B) (o : Option A) → Given P o → ((x : A) → P x → Q (f x))
    → Given Q (option_map f o)
map_given P Q f None g h = tt
map_given P Q f (Some x) g h = h x g
