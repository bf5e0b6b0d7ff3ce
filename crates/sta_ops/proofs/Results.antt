-- What holds of a value in a result.
use Rattle.std.specs.Prelude.{Result, Ok, Err, IfOk}

pub if_ok : {X E : Type 0} (r : Result X E) (P Q R S : X → Type 0) → ((x : X) → P x → Q x → R x → S x) → IfOk r P → IfOk r Q → IfOk r R → IfOk r S
if_ok (Ok x) P Q R S f p q s = f x p q s
if_ok (Err e) P Q R S f p q s = p
