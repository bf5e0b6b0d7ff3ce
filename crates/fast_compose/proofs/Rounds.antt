-- What is known of some names, and then of one more.
use Rattle.std.proofs.Common.{◌≡◌, ◌⊎◌, inl, inr, ℕ, ◌+◌, ◌<◌, true, List, [], ◌∷◌, ◌++◌, take, length, get_or, Contains, sym, ap, subst, ◌∙◌, add-one, arith}
use Rattle.std.proofs.lemmas.List.{length-take-le, get_or-take}
use Rattle.std.proofs.Math.Seq.{take-suc}
use Rattle.model_grammar.specs.Syntax.{Item}
use Rattle.model_meaning.specs.Reached.{Reaches}
use Rattle.model_meaning.proofs.Members.{one_of, none_of}
use Rattle.sta_theory.proofs.Lists.{append_member, in_left, in_right, first_in}
use Rattle.fast_compose.specs.declared.meetings.Met.{Met}
use Rattle.fast_compose.specs.declared.meetings.Met.TheVariants.{Nowhere, At, TooLarge}
use Rattle.fast_compose.specs.declared.stops.Meeting.{Meeting}
use Rattle.fast_compose.specs.Meetings.{graver_of, is_at, IsMet}

-- ---- names in a front that is longer by one

module _ (names : List (List ℕ)) (k : ℕ) (x : List ℕ) (low : k < length names) (is : x ≡ get_or names k x) where
  one_more : take (k + 1) names ≡ take k names ++ x ∷ []
  one_more = ap (λ j. take j names) (add-one k) ∙ take-suc names k x low ∙ ap (λ z. take k names ++ z ∷ []) (sym is)

  there : Contains names x
  there = (k, low, sym is)

  in_front : (n : List ℕ) → Contains (take k names) n → Contains names n
  in_front n (i, below, own) =
      let long = length-take-le k names (omega (arith, low)) in
      (i, omega (arith, below, long, low), sym (get_or-take k names i n (omega (arith, below, long))) ∙ own)

  pub front_more : (n : List ℕ) → Contains (take k names) n → Contains (take (k + 1) names) n
  front_more n at = subst (λ ns. Contains ns n) (sym one_more) (in_left (take k names) (x ∷ []) n at)

  pub last_more : Contains (take (k + 1) names) x
  last_more = subst (λ ns. Contains ns x) (sym one_more) (in_right (take k names) (x ∷ []) x (first_in x []))

  pub either_more : (n : List ℕ) → Contains (take (k + 1) names) n → Contains (take k names) n ⊎ (x ≡ n)
  either_more n at = elim (append_member (take k names) (x ∷ []) n (subst (λ ns. Contains ns n) one_more at)) [
    | inl here ↦ inl here
    | inr last ↦ elim (one_of x n [] last) [ inl same ↦ inr same | inr none ↦ absurd (none_of n none) ]
  ]

  module _ (items : List Item) where
    -- what one of the names reaches
    abbrev pub Before : List ℕ → Type 0
    Before q = (n : List ℕ) × Contains (take k names) n × Reaches items n q

    abbrev pub After : List ℕ → Type 0
    After q = (n : List ℕ) × Contains (take (k + 1) names) n × Reaches items n q

    pub before_after : (q : List ℕ) → Before q → After q
    before_after q (n, at, reached) = (n, front_more n at, reached)

    pub last_after : (q : List ℕ) → Reaches items x q → After q
    last_after q reached = (x, last_more, reached)

    pub after_either : (q : List ℕ) → After q → Before q ⊎ Reaches items x q
    after_either q (n, at, reached) = elim (either_more n at) [ inl here ↦ inl (n, here, reached) | inr same ↦ inr (subst (λ m. Reaches items m q) (sym same) reached) ]

    pub after_all : (q : List ℕ) → After q → (n : List ℕ) × Contains names n × Reaches items n q
    after_all q (n, at, reached) = (n, elim (either_more n at) [ inl here ↦ in_front n here | inr same ↦ subst (Contains names) same there ], reached)

-- ---- meetings

module _ (items : List Item) (S E : List ℕ → Type 0) (to : (q : List ℕ) → S q → E q) where
  pub at_more : (m : Meeting) → IsMet items S (At m) → IsMet items E (At m)
  at_more m is = record { reached = to m.name is.reached; meet = is.meet; type = is.type; kept = is.kept; small = is.small; shallow = is.shallow }

  pub shown_more : (a : Met) → is_at a ≡ true → IsMet items S a → IsMet items E a
  shown_more Nowhere at is = absurd (cc)
  shown_more (At m) at is = at_more m is
  shown_more TooLarge at is = absurd (cc)

module _ (items : List Item) (S R E : List ℕ → Type 0) (left : (q : List ℕ) → S q → E q) (right : (q : List ℕ) → R q → E q) (either : (q : List ℕ) → E q → S q ⊎ R q) where
  none_of_both : IsMet items S Nowhere → IsMet items R Nowhere → IsMet items E Nowhere
  none_of_both none also t (q, e, i, j, meet) = elim (either q e) [ inl s ↦ none t (q, s, i, j, meet) | inr r ↦ also t (q, r, i, j, meet) ]

  large_first : IsMet items S TooLarge → IsMet items R Nowhere → IsMet items E TooLarge
  large_first big none =
      let (q, s, i, j, meet) = big.right in
      record {
        tree = big.tree;
        right = (q, left q s, i, j, meet);
        large = λ t some. (let (p, e, k, l, its) = some in elim (either p e) [ inl own ↦ big.large t (p, own, k, l, its) | inr r ↦ absurd (none t (p, r, k, l, its)) ]);
      }

  large_second : IsMet items S Nowhere → IsMet items R TooLarge → IsMet items E TooLarge
  large_second none big =
      let (q, r, i, j, meet) = big.right in
      record {
        tree = big.tree;
        right = (q, right q r, i, j, meet);
        large = λ t some. (let (p, e, k, l, its) = some in elim (either p e) [ inl s ↦ absurd (none t (p, s, k, l, its)) | inr own ↦ big.large t (p, own, k, l, its) ]);
      }

  large_both : IsMet items S TooLarge → IsMet items R TooLarge → IsMet items E TooLarge
  large_both big other =
      let (q, s, i, j, meet) = big.right in
      record {
        tree = big.tree;
        right = (q, left q s, i, j, meet);
        large = λ t some. (let (p, e, k, l, its) = some in elim (either p e) [ inl own ↦ big.large t (p, own, k, l, its) | inr r ↦ other.large t (p, r, k, l, its) ]);
      }

  pub graver_met : (a b : Met) → IsMet items S a → IsMet items R b → IsMet items E (graver_of a b)
  graver_met (At m) b is other = at_more items S E left m is
  graver_met Nowhere Nowhere is other = none_of_both is other
  graver_met Nowhere (At m) is other = at_more items R E right m other
  graver_met Nowhere TooLarge is other = large_second is other
  graver_met TooLarge Nowhere is other = large_first is other
  graver_met TooLarge (At m) is other = at_more items R E right m other
  graver_met TooLarge TooLarge is other = large_both is other
