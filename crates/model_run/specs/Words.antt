-- The command line: its forms.
use Rattle.std.specs.Prelude.{◌≡◌, ◌≢◌, ◌≤◌, ℕ, List, [], ◌∷◌, Option, Some, None, codes, decimal, unwrap_or}
use Rattle.model_tree.specs.Limits.{most_classes, usual_classes}

-- The words of a command line are the bytes of each. A file is its name.
pub data CommandForm : Type 0 where
  check_form : List ℕ → CommandForm
  run_form : List ℕ → Option ℕ → CommandForm
  -- a file, a name in it, and a file of trees
  apply_form : List ℕ → List ℕ → List ℕ → CommandForm
  accepts_form : List ℕ → List ℕ → List ℕ → CommandForm
  self_form : ℕ → CommandForm

-- check FILE; run FILE; run FILE --classes N, with N from 1 to 2000; apply FILE NAME TREES; accepts FILE NAME TREES; self N,
-- with N from 1 to 200. FILE, NAME and TREES are not empty, and N is decimal.
abbrev pub AreWordsOf : List (List ℕ) → CommandForm → Type 0
AreWordsOf words (check_form file) = (file ≢ []) × (words ≡ codes "check" ∷ file ∷ [])
AreWordsOf words (run_form file None) = (file ≢ []) × (words ≡ codes "run" ∷ file ∷ [])
AreWordsOf words (run_form file (Some n)) = (file ≢ []) × (1 ≤ n) × (n ≤ most_classes) × (words ≡ codes "run" ∷ file ∷ codes "--classes" ∷ decimal n ∷ [])
AreWordsOf words (apply_form file name trees) = (file ≢ []) × (name ≢ []) × (trees ≢ []) × (words ≡ codes "apply" ∷ file ∷ name ∷ trees ∷ [])
AreWordsOf words (accepts_form file name trees) = (file ≢ []) × (name ≢ []) × (trees ≢ []) × (words ≡ codes "accepts" ∷ file ∷ name ∷ trees ∷ [])
AreWordsOf words (self_form n) = (1 ≤ n) × (n ≤ 200) × (words ≡ codes "self" ∷ decimal n ∷ [])

-- the number of trees that may be told apart
abbrev pub limit_of : Option ℕ → ℕ
limit_of n = unwrap_or n usual_classes

abbrev pub usage_line : List ℕ
usage_line = codes "usage: fast check FILE | run FILE [--classes N] | apply FILE NAME TREES | accepts FILE NAME TREES | self N\n"
