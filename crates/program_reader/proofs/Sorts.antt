-- The names of sorts.
use Rattle.std.proofs.Common.{◌≡◌, ℕ, Bool, true, false, List, refl, sym, ap, ◌∙◌, subst}
use lib.Utf8.{encode}
use Rattle.std.specs.Prelude.{codes}
use Rattle.std.specs.Str.{chars, IsUtf8, bytes_eq, encode_utf8_all}
use Rattle.std.proofs.lemmas.Slice.Eq.{bytes_eq-Decides}
use Rattle.std.proofs.lemmas.Str.{encodes-chars}
use Rattle.model_program.specs.Grammar.{sort_text}

is_false : (b : Bool) → (b ≡ true → ⊥) → b ≡ false
is_false true not_true = absurd (not_true refl)
is_false false not_true = refl

-- a text whose bytes are others has other characters
other_text : (t cs : List ℕ) → IsUtf8 t → (t ≡ encode_utf8_all cs → ⊥) → bytes_eq (chars t) cs ≡ false
other_text t cs utf8 other = is_false _ (λ same. other (sym (encodes-chars t utf8) ∙ ap encode_utf8_all ((bytes_eq-Decides (chars t) cs).0 same)))

pub int_sort : (t : List ℕ) → t ≡ codes "int" → chars (codes "Int") ≡ sort_text (chars t)
unfolding chars
int_sort t is_int = subst (λ (l : List ℕ). chars (codes "Int") ≡ sort_text (chars l)) (sym is_int) refl

pub bool_sort : (t : List ℕ) → t ≡ codes "bool" → chars (codes "Bool") ≡ sort_text (chars t)
unfolding chars
bool_sort t is_bool = subst (λ (l : List ℕ). chars (codes "Bool") ≡ sort_text (chars l)) (sym is_bool) refl

pub string_sort : (t : List ℕ) → t ≡ codes "string" → chars (codes "String") ≡ sort_text (chars t)
unfolding chars
string_sort t is_string = subst (λ (l : List ℕ). chars (codes "String") ≡ sort_text (chars l)) (sym is_string) refl

pub other_sort : (t : List ℕ) → IsUtf8 t → (t ≡ codes "int" → ⊥) → (t ≡ codes "bool" → ⊥) → (t ≡ codes "string" → ⊥) → chars t ≡ sort_text (chars t)
unfolding encode
other_sort t utf8 no_int no_bool no_string =
    let a = other_text t (codes "int") utf8 no_int in
    let b = other_text t (codes "bool") utf8 no_bool in
    let s = other_text t (codes "string") utf8 no_string in
    rw (a, b, s) refl
