-- Names and their numbers.
use Rattle.std.proofs.Common.{ℕ, zero, suc, ◌+◌, ◌≡◌, ◌<◌, ◌≤◌, inl, inr, Bool, true, false, true≢false, eqb-true, if◌then◌else◌, List, [], ◌∷◌, ◌++◌, map, take, length, get_or, slice_get, Some, Contains, sym, ap, ap₂, subst, ◌∙◌, arith, append-nil, append_assoc}
use Rattle.std.proofs.lemmas.Bool.{and_parts}
use Rattle.std.specs.List.{list_any}
use Rattle.std.specs.Cmp.Lexicographic.{same_text}
use Rattle.std.proofs.lemmas.List.{map-append, length-append, take_more}
use Rattle.indexmap.specs.IndexSet.{insert_key}
use Rattle.sttr_theory.specs.Lists.{IsAt, Extends, Match}
use Rattle.sttr_theory.specs.Triples.{Triple, LookName, of_first, of_second, middle, asked_by, asked}
use Rattle.sttr_run.specs.Plain.{plain_triple}
use Rattle.sttr_run.specs.declared.triples.Triple as code
use Rattle.sttr_theory.proofs.AlikeWays.{asked_append}
use Rattle.sttr_preimage.specs.declared.names.Name.{Name}
use Rattle.sttr_preimage.specs.declared.names.Name.TheVariants as name
use Rattle.sttr_preimage.specs.declared.names.Side.{Side}
use Rattle.sttr_preimage.specs.declared.names.Side.TheVariants as side
use Rattle.sttr_preimage.specs.Names.{plain_name, side_names, tidy, Adds, IsNumber, Numbers}
use Rattle.sttr_preimage.specs.contracts.names.NamePartialEq.TheImpl.{ghosts as compares}
use Rattle.sttr_theory.proofs.Members.{here, in_left, in_right, in_either, in_single}
use Rattle.sttr_theory.proofs.Matches.{match_map}

same_name : (a b : Name) → compares.eq a b ≡ true → plain_name a ≡ plain_name b
same_name (name.First a) (name.First b) e = ap of_first (eqb-true a b e)
same_name (name.First a) (name.Second b) e = absurd (true≢false (sym e))
same_name (name.First a) (name.Middle b ys) e = absurd (true≢false (sym e))
same_name (name.Second a) (name.First b) e = absurd (true≢false (sym e))
same_name (name.Second a) (name.Second b) e = ap of_second (eqb-true a b e)
same_name (name.Second a) (name.Middle b ys) e = absurd (true≢false (sym e))
same_name (name.Middle a xs) (name.First b) e = absurd (true≢false (sym e))
same_name (name.Middle a xs) (name.Second b) e = absurd (true≢false (sym e))
same_name (name.Middle a xs) (name.Middle b ys) e =
    let h = and_parts _ _ e in ap₂ middle (eqb-true a b h.0) (same_text xs.items ys.items (sym h.1))

module _ {K X : Type 0} (eq : K → K → Bool) (plain : K → X) (same : (a b : K) → eq a b ≡ true → plain a ≡ plain b) where
  adds_none : (old : List X) (W : X → Type 0) → Adds old old W
  adds_none old W = record { more = []; behind = sym (append-nil old); wanted = λ x at. absurd (omega (arith, at.1)) }

  -- a key that is put among the others has a number
  pub number_of : (keys new : List K) (k z : K) (n : ℕ) → new ≡ insert_key eq keys k → slice_get new n ≡ Some z → eq k z ≡ true → IsNumber (map plain keys) (map plain new) (plain k) n
  number_of keys new k z n is at e = record { adds = subst (λ l. Adds (map plain keys) (map plain l) (λ y. plain k ≡ y)) (sym is) (by (list_any (eq k) keys)); at = place new n at }
    where
      by : (b : Bool) → Adds (map plain keys) (map plain (if b then keys else keys ++ k ∷ [])) (λ y. plain k ≡ y)
      by true = adds_none (map plain keys) (λ y. plain k ≡ y)
      by false = record { more = plain k ∷ []; behind = map-append plain keys (k ∷ []); wanted = λ y c. in_single (plain k) y c }

      place : (ks : List K) (n : ℕ) → slice_get ks n ≡ Some z → IsAt (map plain ks) n (plain k)
      place [] n at = absurd (cc)
      place (x ∷ ks) zero at = (omega arith, let h : x ≡ z = cc in ap plain h ∙ sym (same k z e))
      place (x ∷ ks) (suc n) at = let (lt, h) = place ks n at in (omega (arith, lt), h)

pub number_among : (keys new : List Name) (k z : Name) (n : ℕ) → new ≡ insert_key compares.eq keys k → slice_get new n ≡ Some z → compares.eq k z ≡ true → IsNumber (map plain_name keys) (map plain_name new) (plain_name k) n
number_among = number_of compares.eq plain_name same_name

-- ---- more names and their numbers

module _ {X : Type 0} where
  pub adds_then : (a b c : List X) (V W U : X → Type 0) → Adds a b V → Adds b c W → ((x : X) → V x → U x) → ((x : X) → W x → U x) → Adds a c U
  adds_then a b c V W U f g v w = record {
    more = f.more ++ g.more;
    behind = g.behind ∙ ap (λ l. l ++ g.more) f.behind ∙ append_assoc a f.more g.more;
    wanted = λ x at. elim (in_either f.more g.more x at) [ inl y ↦ v x (f.wanted x y) | inr y ↦ w x (g.wanted x y) ];
  }

  pub adds_wider : (a b : List X) (V W : X → Type 0) → Adds a b V → ((x : X) → V x → W x) → Adds a b W
  adds_wider a b V W f v = record { more = f.more; behind = f.behind; wanted = λ x at. v x (f.wanted x at) }

  pub adds_same : (old new : List X) (W : X → Type 0) → new ≡ old → Adds old new W
  adds_same old new W e = record { more = []; behind = e ∙ sym (append-nil old); wanted = λ x at. absurd (omega (arith, at.1)) }

  before_more : (xs ys : List X) → Extends xs (xs ++ ys)
  before_more [] ys i x at = absurd (omega (arith, at.0))
  before_more (z ∷ xs) ys zero x at = (omega arith, at.1)
  before_more (z ∷ xs) ys (suc i) x at = let (lt, e) = before_more xs ys i x (omega (arith, at.0), at.1) in (omega (arith, lt), e)

  pub adds_extends : (old new : List X) (W : X → Type 0) → Adds old new W → Extends old new
  adds_extends old new W f = subst (Extends old) (sym f.behind) (before_more old f.more)

  pub adds_length : (old new : List X) (W : X → Type 0) → Adds old new W → length old ≤ length new
  adds_length old new W f = omega (arith, ap length f.behind, length-append old f.more)

module _ {X Y : Type 0} (R : X → Y → Type 0) where
  pub match_none : Match R [] []
  match_none = (λ x c. absurd (omega (arith, c.1)), λ y c. absurd (omega (arith, c.1)))

  pub match_both : (xs vs : List X) (ys ws : List Y) → Match R xs ys → Match R vs ws → Match R (xs ++ vs) (ys ++ ws)
  match_both xs vs ys ws a b = (
    λ x c. elim (in_either xs vs x c) [ inl at ↦ (let (y, there, r) = a.0 x at in (y, in_left ys ws y there, r)) | inr at ↦ (let (y, there, r) = b.0 x at in (y, in_right ys ws y there, r)) ],
    λ y c. elim (in_either ys ws y c) [ inl at ↦ (let (x, there, r) = a.1 y at in (x, in_left xs vs x there, r)) | inr at ↦ (let (x, there, r) = b.1 y at in (x, in_right xs vs x there, r)) ],
  )

  pub match_one : (x : X) (y : Y) → R x y → Match R (x ∷ []) (y ∷ [])
  match_one x y r = (λ z c. (y, here y [], subst (λ u. R u y) (in_single x z c) r), λ z c. (x, here x [], subst (R x) (in_single y z c) r))

pub numbers_none : (old new : List LookName) (before after : List ℕ) → new ≡ old → after ≡ before → Numbers old new before after []
numbers_none old new before after e f = record { adds = adds_same old new (Contains []) e; added = []; behind = f ∙ sym (append-nil before); named = match_none (IsAt new) }

pub numbers_then : (a b c : List LookName) (p q r : List ℕ) (V W : List LookName) → Numbers a b p q V → Numbers b c q r W → Numbers a c p r (V ++ W)
numbers_then a b c p q r V W f g = record {
  adds = adds_then a b c (Contains V) (Contains W) (Contains (V ++ W)) f.adds g.adds (λ x at. in_left V W x at) (λ x at. in_right V W x at);
  added = f.added ++ g.added;
  behind = g.behind ∙ ap (λ l. l ++ g.added) f.behind ∙ append_assoc p f.added g.added;
  named = match_both (IsAt c) f.added g.added V W (match_map (IsAt b) (IsAt c) (adds_extends b c (Contains W) g.adds) f.added V f.named) g.named;
}

pub numbers_one : (a b : List LookName) (p q : List ℕ) (x : LookName) (n : ℕ) → IsNumber a b x n → q ≡ p ++ n ∷ [] → Numbers a b p q (x ∷ [])
numbers_one a b p q x n is e = record {
  adds = adds_wider a b (λ y. x ≡ y) (Contains (x ∷ [])) is.adds (λ y same. subst (Contains (x ∷ [])) same (here x []));
  added = n ∷ [];
  behind = e;
  named = match_one (IsAt b) n x is.at;
}

-- ---- loops over what is named

side_append : (side : Side) (xs ys : List ℕ) → side_names side (xs ++ ys) ≡ side_names side xs ++ side_names side ys
side_append side.First xs ys = map-append of_first xs ys
side_append side.Second xs ys = map-append of_second xs ys

pub states_more : (side : Side) (states : List ℕ) (i d : ℕ) (x : LookName) → i < length states → side_names side (get_or states i d ∷ []) ≡ x ∷ [] → side_names side (take (i + 1) states) ≡ side_names side (take i states) ++ x ∷ []
states_more side states i d x low is =
    ap (side_names side) (take_more states i d low) ∙ side_append side (take i states) (get_or states i d ∷ []) ∙ ap (λ z. side_names side (take i states) ++ z) is

pub asked_more : (triples : List code.Triple) (i : ℕ) (t : code.Triple) → i < length triples → t ≡ get_or triples i t
    → asked (map tidy (map plain_triple (take (i + 1) triples))) ≡ asked (map tidy (map plain_triple (take i triples))) ++ asked_by (tidy (plain_triple t)).first (tidy (plain_triple t)).all
asked_more triples i t low at =
    ap (λ ts. asked (map tidy (map plain_triple ts))) (take_more triples i t low ∙ ap (λ z. take i triples ++ z ∷ []) (sym at))
    ∙ ap (λ ts. asked (map tidy ts)) (map-append plain_triple (take i triples) (t ∷ []))
    ∙ ap asked (map-append tidy (map plain_triple (take i triples)) (plain_triple t ∷ []))
    ∙ asked_append (map tidy (map plain_triple (take i triples))) (tidy (plain_triple t) ∷ [])
    ∙ ap (λ z. asked (map tidy (map plain_triple (take i triples))) ++ z) (append-nil (asked_by (tidy (plain_triple t)).first (tidy (plain_triple t)).all))
