-- A code for sorts: their numbers.
use Rattle.std.specs.Prelude.{◌≡◌, ℕ, zero, suc, refl}
use Rattle.std.specs.Coded.{Coded, code_by, coded_ℕ}
use Rattle.model_tree.specs.Signature.{Sort, wholes, truths, texts}

abbrev pub number_of : Sort → ℕ
number_of wholes = 0
number_of truths = 1
number_of texts = 2

abbrev pub sort_with : ℕ → Sort
sort_with zero = wholes
sort_with (suc zero) = truths
sort_with (suc (suc n)) = texts

pub one_sort_with : (s : Sort) → sort_with (number_of s) ≡ s
one_sort_with wholes = refl
one_sort_with truths = refl
one_sort_with texts = refl

abbrev pub coded_sort : Coded Sort
coded_sort = code_by ℕ coded_ℕ number_of sort_with one_sort_with
