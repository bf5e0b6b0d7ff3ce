-- The operands of a chain, gathered while they are read.
use Rattle.std.proofs.Common.{◌≡◌, ◌≤◌, Bool, false, List, [], ◌∷◌, ◌++◌, length, refl, sym, ap, ◌∙◌, subst, arith, map, Option}
use Rattle.std.proofs.lemmas.List.{length-append}
use Rattle.fast_fault.specs.declared.place.Pos.{Pos}
use Rattle.model_program.specs.declared.Word.{Word}
use Rattle.model_program.specs.Lexeme.{Lexeme}
use Rattle.read_forms.specs.Reads.{IsRead, Fails}
use Rattle.read_forms.proofs.Lists.{IsPartWay}
use Rattle.model_grammar.specs.declared.Chain.{Chain}
use Rattle.model_grammar.specs.declared.Chain.TheVariants.{Disjunction, Conjunction, Product}
use Rattle.model_grammar.specs.declared.Chain.TheVariants as kinds
use Rattle.model_grammar.specs.declared.Level.{Level}
use Rattle.model_grammar.specs.Operators.{IsSignOf, IsMany, is_marking}
use Rattle.model_grammar.specs.Syntax.{Expr, part, chain}
use Rattle.model_grammar.specs.Expressions.{IsExpr, AreMore, operand, chain_of, parts_of}
use Rattle.model_grammar.specs.Printed.{chain_level}
use Rattle.label_reader.specs.Levels.{GoesOn, NoSign}
use Rattle.label_reader.specs.Operands.{mark_in, parts_from}
use Rattle.label_reader.proofs.LevelForms.{chain_starts, chain_more, chain_ends}

pub mark_of_sign : (k : Chain) (w : Word) → IsSignOf k w → mark_in k (is_marking w) ≡ is_marking w
mark_of_sign Disjunction w is = sym (ap is_marking is)
mark_of_sign Conjunction w is = sym (ap is_marking is)
mark_of_sign kinds.Sum w is = refl
mark_of_sign Product w is = refl

pub mark_of_many : (k : Chain) (w : Word) → IsMany k w → mark_in k (is_marking w) ≡ is_marking w
mark_of_many Disjunction w is = sym (ap is_marking is)
mark_of_many Conjunction w is = sym (ap is_marking is)
mark_of_many kinds.Sum w is = refl
mark_of_many Product w is = refl

mark_of_none : (k : Chain) → mark_in k false ≡ false
mark_of_none Disjunction = refl
mark_of_none Conjunction = refl
mark_of_none kinds.Sum = refl
mark_of_none Product = refl

-- signs with their operands, as operands with marks
abbrev pub marks_of : List (Lexeme × Expr) → List (Bool × Expr)
marks_of [] = []
marks_of (m ∷ more) = (is_marking m.0.word, m.1) ∷ marks_of more

marks_append : (more : List (Lexeme × Expr)) (m : Lexeme × Expr) → marks_of (more ++ m ∷ []) ≡ marks_of more ++ (is_marking m.0.word, m.1) ∷ []
marks_append [] m = refl
marks_append (n ∷ more) m = ap (λ l. (is_marking n.0.word, n.1) ∷ l) (marks_append more m)

parts_are : (more : List (Lexeme × Expr)) → parts_from (marks_of more) ≡ parts_of more
parts_are [] = refl
parts_are (m ∷ more) = ap (λ l. part (is_marking m.0.word) m.1 l) (parts_are more)

-- the first sign, which comes next while no operand stands behind one
abbrev IsFirstSign : Lexeme → List (Lexeme × Expr) → List Lexeme → Type 0
IsFirstSign s [] rest = (after : List Lexeme) × (rest ≡ s ∷ after)
IsFirstSign s (m ∷ more) rest = m.0.place ≡ s.place

pub record IsChaining (k : Chain) (tokens rest : List Lexeme) (s : Lexeme) (parts : List (Bool × Expr)) : Type 0 where
  pub first : Expr
  pub more : List (Lexeme × Expr)
  pub gathered : parts ≡ (false, first) ∷ marks_of more
  pub first_sign : IsFirstSign s more rest
  pub shorter : length rest ≤ length tokens
  pub part_way : IsPartWay (IsExpr (chain_level k)) (AreMore k) (GoesOn (chain_level k)) (λ later. chain_of k first (more ++ later)) tokens rest

-- the same, by the place of the first sign
pub record IsChainAt (k : Chain) (tokens rest : List Lexeme) (place : Pos) (parts : List (Bool × Expr)) : Type 0 where
  pub sign : Lexeme
  pub is_at : place ≡ sign.place
  pub is_sign : IsSignOf k sign.word
  pub so_far : IsChaining k tokens rest sign parts

shorter_of : {A : Type 0} {form : A → List Lexeme → Type 0} {goes_on : Word → Type 0} {tokens rest : List Lexeme} {a : A} → IsRead form goes_on tokens a rest → length rest ≤ length tokens
shorter_of read = omega (arith, simp length-append at (ap length read.split))

pub chaining_starts : (k : Chain) (tokens rest after : List Lexeme) (s : Lexeme) (x : Expr) (none parts : List (Bool × Expr)) (own : Chain) → own ≡ k → none ≡ [] → parts ≡ none ++ (mark_in own false, x) ∷ [] → IsRead (IsExpr (operand k)) (GoesOn (operand k)) tokens x rest → rest ≡ s ∷ after → IsChaining k tokens rest s parts
chaining_starts k tokens rest after s x none parts own is_own is_none is_one read here = record {
  first = x;
  more = [];
  gathered = is_one ∙ ap (λ l. l ++ (mark_in own false, x) ∷ []) is_none ∙ ap (λ m. (m, x) ∷ []) (mark_of_none own);
  first_sign = (after, here);
  shorter = shorter_of read;
  part_way = chain_starts k tokens rest x read;
}

first_sign_kept : (s t : Lexeme) (x : Expr) (more : List (Lexeme × Expr)) (rest after behind : List Lexeme) → IsFirstSign s more rest → rest ≡ t ∷ after → IsFirstSign s (more ++ (t, x) ∷ []) behind
first_sign_kept s t x [] rest after behind first here = let e : s ∷ first.0 ≡ t ∷ after = sym first.1 ∙ here in let same : t ≡ s = cc in ap (λ (l : Lexeme). l.place) same
first_sign_kept s t x (m ∷ more) rest after behind first here = first

pub chaining_more : (k : Chain) (tokens rest after behind : List Lexeme) (s t : Lexeme) (x : Expr) (parts new : List (Bool × Expr)) → IsChaining k tokens rest s parts → rest ≡ t ∷ after → IsSignOf k t.word → IsRead (IsExpr (operand k)) (GoesOn (operand k)) after x behind
    → (own : Chain) → own ≡ k → (mark : Bool) → mark ≡ is_marking t.word → new ≡ parts ++ (mark_in own mark, x) ∷ [] → IsChaining k tokens behind s new
chaining_more k tokens rest after behind s t x parts new so_far here is_sign read own is_own mark is_mark is_new = record {
  first = so_far.first;
  more = so_far.more ++ (t, x) ∷ [];
  gathered = is_new ∙ ap (λ m. parts ++ (m, x) ∷ []) (λ i. mark_in (is_own i) (is_mark i)) ∙ ap (λ m. parts ++ (m, x) ∷ []) (mark_of_sign k t.word is_sign) ∙ ap (λ l. l ++ (is_marking t.word, x) ∷ []) so_far.gathered ∙ ap (λ l. (false, so_far.first) ∷ l) (sym (marks_append so_far.more (t, x)));
  first_sign = first_sign_kept s t x so_far.more rest after behind so_far.first_sign here;
  shorter = let a = shorter_of read in let b : length rest ≡ length (t ∷ after) = ap length here in let c = so_far.shorter in omega arith;
  part_way = chain_more k tokens rest after behind t so_far.first x so_far.more so_far.part_way here is_sign read;
}

chain_is : (k : Chain) (s : Lexeme) (first : Expr) (more : List (Lexeme × Expr)) (rest : List Lexeme) → IsFirstSign s more rest → IsSignOf k s.word → NoSign k rest → chain_of k first more ≡ chain k s.place (parts_from ((false, first) ∷ marks_of more))
chain_is k s first [] rest first_sign is_sign none = absurd (subst (λ (l : List Lexeme). NoSign k l) first_sign.1 none is_sign)
chain_is k s first (m ∷ more) rest first_sign is_sign none = ap (λ l. chain k m.0.place (part false first l)) (sym (parts_are (m ∷ more))) ∙ ap (λ p. chain k p (parts_from ((false, first) ∷ marks_of (m ∷ more)))) first_sign

pub chaining_ends : (k : Chain) (tokens rest : List Lexeme) (s : Lexeme) (parts : List (Bool × Expr)) (e : Expr) → IsChaining k tokens rest s parts → IsSignOf k s.word → NoSign k rest → e ≡ chain k s.place (parts_from parts) → IsRead (IsExpr (chain_level k)) (GoesOn (chain_level k)) tokens e rest
chaining_ends k tokens rest s parts e so_far is_sign none is =
    subst (λ (x : Expr). IsRead (IsExpr (chain_level k)) (GoesOn (chain_level k)) tokens x rest)
    (chain_is k s so_far.first so_far.more rest so_far.first_sign is_sign none ∙ ap (λ l. chain k s.place (parts_from l)) (sym so_far.gathered) ∙ sym is)
    (chain_ends k tokens rest so_far.first so_far.more so_far.part_way none)

-- Operands behind an operator that stands before them.

abbrev pub signed : Lexeme → List Expr → List (Lexeme × Expr)
signed op es = map (λ e. (op, e)) es

signed_append : (op : Lexeme) (es : List Expr) (x : Expr) → marks_of (signed op (es ++ x ∷ [])) ≡ marks_of (signed op es) ++ (is_marking op.word, x) ∷ []
signed_append op [] x = refl
signed_append op (e ∷ es) x = ap (λ l. (is_marking op.word, e) ∷ l) (signed_append op es x)

pub prefix_is : (k : Chain) (op : Lexeme) (first second : Expr) (others : List Expr) → chain_of k first (signed op (second ∷ others)) ≡ chain k op.place (parts_from ((false, first) ∷ marks_of (signed op (second ∷ others))))
prefix_is k op first second others = ap (λ l. chain k op.place (part false first l)) (sym (parts_are (signed op (second ∷ others))))

pub two_gathered : (k : Chain) (op : Lexeme) (first second : Expr) (none one two : List (Bool × Expr)) (mark : Bool) (own same : Chain) → IsMany k op.word → none ≡ [] → one ≡ none ++ (mark_in own false, first) ∷ [] → mark ≡ is_marking op.word → same ≡ k → two ≡ one ++ (mark_in same mark, second) ∷ [] → two ≡ (false, first) ∷ marks_of (signed op (second ∷ []))
two_gathered k op first second none one two mark own same many is_none is_one is_mark is_same is_two =
    is_two ∙ ap (λ l. l ++ (mark_in same mark, second) ∷ []) (is_one ∙ ap (λ l. l ++ (mark_in own false, first) ∷ []) is_none) ∙ ap (λ m. (m, first) ∷ (mark_in same mark, second) ∷ []) (mark_of_none own)
    ∙ ap (λ m. (false, first) ∷ (m, second) ∷ []) ((λ i. mark_in (is_same i) (is_mark i)) ∙ mark_of_many k op.word many)

pub more_gathered : (k : Chain) (op : Lexeme) (first x : Expr) (all : List Expr) (parts new : List (Bool × Expr)) (mark : Bool) (own : Chain) → IsMany k op.word → parts ≡ (false, first) ∷ marks_of (signed op all) → mark ≡ is_marking op.word → own ≡ k → new ≡ parts ++ (mark_in own mark, x) ∷ [] → new ≡ (false, first) ∷ marks_of (signed op (all ++ x ∷ []))
more_gathered k op first x all parts new mark own many so_far is_mark is_own is_new =
    is_new ∙ ap (λ m. parts ++ (m, x) ∷ []) ((λ i. mark_in (is_own i) (is_mark i)) ∙ mark_of_many k op.word many) ∙ ap (λ l. l ++ (is_marking op.word, x) ∷ []) so_far ∙ ap (λ l. (false, first) ∷ l) (sym (signed_append op all x))

-- at the level of the operands, however it is told
pub operand_fails : (k : Chain) (v : Level) (tokens : List Lexeme) (bad : Option (List Lexeme)) → v ≡ operand k → Fails (IsExpr v) (GoesOn v) tokens bad → Fails (IsExpr (operand k)) (GoesOn (operand k)) tokens bad
operand_fails k v tokens bad is fails = subst (λ (l : Level). Fails (IsExpr l) (GoesOn l) tokens bad) is fails

pub operand_read : (k : Chain) (v : Level) {tokens rest : List Lexeme} {x : Expr} → v ≡ operand k → IsRead (IsExpr v) (GoesOn v) tokens x rest → IsRead (IsExpr (operand k)) (GoesOn (operand k)) tokens x rest
operand_read k v {tokens} {rest} {x} is read = subst (λ (l : Level). IsRead (IsExpr l) (GoesOn l) tokens x rest) is read
