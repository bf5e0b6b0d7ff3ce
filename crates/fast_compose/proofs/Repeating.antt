-- A term uses a child twice exactly where a variable stands twice in it.
use Rattle.std.proofs.Common.{◌≡◌, ◌⊎◌, inl, inr, ℕ, zero, suc, ◌+◌, ◌<◌, true, false, List, [], ◌∷◌, ◌++◌, take, length, get_or, Contains, refl, sym, ap, subst, ◌∙◌, append_assoc, append-nil, add-one}
use Rattle.std.proofs.Math.Seq.{take-suc}
use Rattle.model_grammar.specs.Syntax.{Out, child, call, node, Outs, no_out, and_out}
use Rattle.model_meaning.proofs.Members.{one_of, none_of}
use Rattle.model_run.specs.Plain.{Names, NamesInOne, NamesTwice, NamesTwiceIn}
use Rattle.fast_syntax.specs.declared.items.Out as code
use Rattle.fast_syntax.specs.Plain.{plain_out}
use Rattle.fast_syntax.specs.Slices.{plain_outputs}
use Rattle.sta_theory.proofs.Lists.{append_member, in_left, in_right, first_in, later_in}
use Rattle.fast_compose.specs.Copying.{uses_in, uses_in_all, HasRepeat, Repeats}

-- ---- repeats in joined lists

repeat_left : (xs ys : List (List ℕ)) → HasRepeat xs → HasRepeat (xs ++ ys)
repeat_left [] ys r = absurd r
repeat_left (x ∷ xs) ys (inl at) = inl (in_left xs ys x at)
repeat_left (x ∷ xs) ys (inr r) = inr (repeat_left xs ys r)

repeat_right : (xs ys : List (List ℕ)) → HasRepeat ys → HasRepeat (xs ++ ys)
repeat_right [] ys r = r
repeat_right (x ∷ xs) ys r = inr (repeat_right xs ys r)

repeat_both : (xs ys : List (List ℕ)) (v : List ℕ) → Contains xs v → Contains ys v → HasRepeat (xs ++ ys)
repeat_both [] ys v at also = absurd (none_of v at)
repeat_both (x ∷ xs) ys v at also = elim (one_of x v xs at) as (λ _. HasRepeat (x ∷ xs ++ ys)) [
  | inl same ↦ inl (in_right xs ys x (subst (Contains ys) (sym same) also))
  | inr later ↦ inr (repeat_both xs ys v later also)
]

split_repeat : (xs ys : List (List ℕ)) → HasRepeat (xs ++ ys) → HasRepeat xs ⊎ ((v : List ℕ) × Contains xs v × Contains ys v) ⊎ HasRepeat ys
split_repeat [] ys r = inr (inr r)
split_repeat (x ∷ xs) ys (inl at) = elim (append_member xs ys x at) [ inl here ↦ inl (inl here) | inr there ↦ inr (inl (x, first_in x xs, there)) ]
split_repeat (x ∷ xs) ys (inr r) = elim (split_repeat xs ys r) [
  | inl own ↦ inl (inr own)
  | inr other ↦ elim other [ inl both ↦ inr (inl (both.0, later_in x both.0 xs both.1, both.2)) | inr later ↦ inr (inr later) ]
]

-- ---- uses in terms

mutual
  named_use : (out : Out) (v : List ℕ) → Contains (uses_in out) v → Names out v
  named_use (child y) v at = elim (one_of y.text v [] at) [ inl same ↦ same | inr none ↦ absurd (none_of v none) ]
  named_use (call q y) v at = elim (one_of y.text v [] at) [ inl same ↦ same | inr none ↦ absurd (none_of v none) ]
  named_use (node n labels outs) v at = named_use_in outs v at

  named_use_in : (outs : Outs) (v : List ℕ) → Contains (uses_in_all outs) v → NamesInOne outs v
  named_use_in no_out v at = absurd (none_of v at)
  named_use_in (and_out out outs) v at = elim (append_member (uses_in out) (uses_in_all outs) v at) as (λ _. NamesInOne (and_out out outs) v) [ inl here ↦ inl (named_use out v here) | inr there ↦ inr (named_use_in outs v there) ]

mutual
  use_named : (out : Out) (v : List ℕ) → Names out v → Contains (uses_in out) v
  use_named (child y) v is = subst (Contains (y.text ∷ [])) is (first_in y.text [])
  use_named (call q y) v is = subst (Contains (y.text ∷ [])) is (first_in y.text [])
  use_named (node n labels outs) v is = use_named_in outs v is

  use_named_in : (outs : Outs) (v : List ℕ) → NamesInOne outs v → Contains (uses_in_all outs) v
  use_named_in no_out v is = absurd is
  use_named_in (and_out out outs) v (inl is) = in_left (uses_in out) (uses_in_all outs) v (use_named out v is)
  use_named_in (and_out out outs) v (inr is) = in_right (uses_in out) (uses_in_all outs) v (use_named_in outs v is)

one_apart : (v : List ℕ) → HasRepeat (v ∷ []) → ⊥
one_apart v (inl at) = none_of v at
one_apart v (inr r) = r

mutual
  twice_by_repeat : (out : Out) → HasRepeat (uses_in out) → (v : List ℕ) × NamesTwice out v
  twice_by_repeat (child y) r = absurd (one_apart y.text r)
  twice_by_repeat (call q y) r = absurd (one_apart y.text r)
  twice_by_repeat (node n labels outs) r = twice_by_repeat_in outs r

  twice_by_repeat_in : (outs : Outs) → HasRepeat (uses_in_all outs) → (v : List ℕ) × NamesTwiceIn outs v
  twice_by_repeat_in no_out r = absurd r
  twice_by_repeat_in (and_out out outs) r = elim (split_repeat (uses_in out) (uses_in_all outs) r) as (λ _. (v : List ℕ) × NamesTwiceIn (and_out out outs) v) [
    | inl own ↦ (let (v, twice) = twice_by_repeat out own in (v, inl twice))
    | inr other ↦ elim other as (λ _. (v : List ℕ) × NamesTwiceIn (and_out out outs) v) [
      | inl both ↦ (both.0, inr (inl (named_use out both.0 both.1, named_use_in outs both.0 both.2)))
      | inr later ↦ (let (v, twice) = twice_by_repeat_in outs later in (v, inr (inr twice)))
    ]
  ]

mutual
  repeat_by_twice : (out : Out) (v : List ℕ) → NamesTwice out v → HasRepeat (uses_in out)
  repeat_by_twice (child y) v twice = absurd twice
  repeat_by_twice (call q y) v twice = absurd twice
  repeat_by_twice (node n labels outs) v twice = repeat_by_twice_in outs v twice

  repeat_by_twice_in : (outs : Outs) (v : List ℕ) → NamesTwiceIn outs v → HasRepeat (uses_in_all outs)
  repeat_by_twice_in no_out v twice = absurd twice
  repeat_by_twice_in (and_out out outs) v (inl twice) = repeat_left (uses_in out) (uses_in_all outs) (repeat_by_twice out v twice)
  repeat_by_twice_in (and_out out outs) v (inr (inl both)) = repeat_both (uses_in out) (uses_in_all outs) v (use_named out v both.0) (use_named_in outs v both.1)
  repeat_by_twice_in (and_out out outs) v (inr (inr twice)) = repeat_right (uses_in out) (uses_in_all outs) (repeat_by_twice_in outs v twice)

-- ---- what the search finds

-- one variable
pub repeats_seen : (old new : List (List ℕ)) (v : List ℕ) → Contains old v → Repeats true old new (v ∷ [])
repeats_seen old new v at = repeat_both old (v ∷ []) v at (first_in v [])

pub repeats_unseen : (old new : List (List ℕ)) (v : List ℕ) → (Contains old v → ⊥) → new ≡ old ++ v ∷ [] → Repeats false old new (v ∷ [])
repeats_unseen old new v none is = (
  is,
  λ r. elim (split_repeat old (v ∷ []) r) [
    | inl own ↦ own
    | inr other ↦ elim other [
      | inl both ↦ absurd (none (elim (one_of v both.0 [] both.2) [ inl same ↦ subst (Contains old) (sym same) both.1 | inr nothing ↦ absurd (none_of both.0 nothing) ]))
      | inr later ↦ absurd (one_apart v later)
    ]
  ],
)

pub repeats_none : (old : List (List ℕ)) → Repeats false old old []
repeats_none old = (sym (append-nil old), λ r. subst HasRepeat (append-nil old) r)

repeats_twice : (old mid new xs ys : List (List ℕ)) → Repeats false old mid xs → Repeats false mid new ys → Repeats false old new (xs ++ ys)
repeats_twice old mid new xs ys first second = (
  second.0 ∙ ap (λ z. z ++ ys) first.0 ∙ append_assoc old xs ys,
  λ r. first.1 (subst HasRepeat first.0 (second.1 (subst HasRepeat (sym (append_assoc old xs ys) ∙ ap (λ z. z ++ ys) (sym first.0)) r))),
)

uses_more : (outs : List code.Out) (out : code.Out) → uses_in_all (plain_outputs (outs ++ out ∷ [])) ≡ uses_in_all (plain_outputs outs) ++ uses_in (plain_out out)
uses_more [] out = append-nil (uses_in (plain_out out))
uses_more (o ∷ outs) out = ap (λ z. uses_in (plain_out o) ++ z) (uses_more outs out) ∙ sym (append_assoc (uses_in (plain_out o)) (uses_in_all (plain_outputs outs)) (uses_in (plain_out out)))

module _ (outs : List code.Out) (i : ℕ) (out : code.Out) (low : i < length outs) (is : out ≡ get_or outs i out) where
  uses_next : uses_in_all (plain_outputs (take (i + 1) outs)) ≡ uses_in_all (plain_outputs (take i outs)) ++ uses_in (plain_out out)
  uses_next =
      ap (λ n. uses_in_all (plain_outputs (take n outs))) (add-one i)
      ∙ ap (λ os. uses_in_all (plain_outputs os)) (take-suc outs i out low ∙ ap (λ o. take i outs ++ o ∷ []) (sym is))
      ∙ uses_more (take i outs) out

  -- one more part of a node
  pub repeats_next : (old mid new : List (List ℕ)) → Repeats false old mid (uses_in_all (plain_outputs (take i outs))) → Repeats false mid new (uses_in (plain_out out)) → Repeats false old new (uses_in_all (plain_outputs (take (i + 1) outs)))
  repeats_next old mid new first second = subst (Repeats false old new) (sym uses_next) (repeats_twice old mid new _ _ first second)

  front_of : (k : ℕ) (os : List code.Out) → (rest : List (List ℕ)) × (uses_in_all (plain_outputs os) ≡ uses_in_all (plain_outputs (take k os)) ++ rest)
  front_of zero os = (uses_in_all (plain_outputs os), refl)
  front_of (suc k) [] = ([], refl)
  front_of (suc k) (o ∷ os) =
      let (rest, e) = front_of k os in
      (rest, ap (λ z. uses_in (plain_out o) ++ z) e ∙ sym (append_assoc (uses_in (plain_out o)) (uses_in_all (plain_outputs (take k os))) rest))

  -- a part that repeats makes the node repeat
  pub repeats_part : (old mid new : List (List ℕ)) → Repeats false old mid (uses_in_all (plain_outputs (take i outs))) → Repeats true mid new (uses_in (plain_out out)) → HasRepeat (old ++ uses_in_all (plain_outputs outs))
  repeats_part old mid new first second =
      let (rest, e) = front_of (i + 1) outs in
      let next = subst HasRepeat (ap (λ z. z ++ uses_in (plain_out out)) first.0 ∙ append_assoc old (uses_in_all (plain_outputs (take i outs))) (uses_in (plain_out out)) ∙ ap (λ z. old ++ z) (sym uses_next)) second in
      subst HasRepeat (append_assoc old (uses_in_all (plain_outputs (take (i + 1) outs))) rest ∙ ap (λ z. old ++ z) (sym e)) (repeat_left (old ++ uses_in_all (plain_outputs (take (i + 1) outs))) rest next)

-- with nothing seen before
pub copies_by : (out : Out) (old new : List (List ℕ)) (b : _) → old ≡ [] → Repeats b old new (uses_in out) → (b ≡ true → (v : List ℕ) × NamesTwice out v) × (((v : List ℕ) × NamesTwice out v) → b ≡ true)
copies_by out old new true none r = (λ e. twice_by_repeat out (subst (λ xs. HasRepeat (xs ++ uses_in out)) none r), λ twice. refl)
copies_by out old new false none r = (
  λ e. absurd (cc),
  λ twice. absurd (subst HasRepeat none (r.1 (subst (λ xs. HasRepeat (xs ++ uses_in out)) (sym none) (repeat_by_twice out twice.0 twice.1)))),
)
