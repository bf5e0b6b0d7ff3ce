-- Facts on the sides that fields stand for.
use Rattle.std.proofs.Common.{◌≡◌, ◌≢◌, ◌<◌, ℕ, Bool, true, false, not, cond, List, [], ◌∷◌, length, get_or, All, refl, ap, sym, ◌∙◌, subst}
use Rattle.std.proofs.lemmas.List.{get_or-map, length-map}
use Rattle.std.specs.Str.{bytes_eq}
use Rattle.std.proofs.lemmas.Slice.Eq.{bytes_eq-Decides}
use Rattle.model_tree.specs.Label.{Label}
use Rattle.flat_label.specs.declared.texts.TextSide.{TextSide}
use Rattle.flat_label.specs.declared.texts.TextSide.TheVariants.{Field, Constant}
use Rattle.flat_label.specs.Texts.{side_text, SideFits, same_side, one_side, same_as_itself}
use Rattle.flat_label.specs.Sides.{Follows, stands_for, StandsForItself, IsAmong, Join, replaced}

module _ (sides : List TextSide) where
  -- a side and what it stands for are one text
  pub stand_text : (l : Label) (s : TextSide) → Follows sides l → SideFits (length sides) s → side_text s l ≡ side_text (stands_for sides s) l
  stand_text l (Field k) follows fits = follows k (Field k) fits
  stand_text l (Constant t) follows fits = refl

  pub stand_root : (s : TextSide) → All (StandsForItself sides) sides → SideFits (length sides) s → StandsForItself sides (stands_for sides s)
  stand_root (Field k) rooted fits = rooted k (Field k) fits
  stand_root (Constant t) rooted fits = tt

  pub stand_among : (constants : List (List ℕ)) (s : TextSide) → All (IsAmong constants) sides → IsAmong constants s → SideFits (length sides) s → IsAmong constants (stands_for sides s)
  stand_among constants (Field k) among is fits = among k (Field k) fits
  stand_among constants (Constant t) among is fits = is

-- what becomes of one side
abbrev put : TextSide → TextSide → TextSide → TextSide
put from to s = cond (same_side s from) to s

module _ (x : TextSide) where
  put_same_if : (s : TextSide) (b : Bool) → same_side s x ≡ b → cond b x s ≡ s
  put_same_if s true e = sym (one_side s x e)
  put_same_if s false e = refl

  -- a side in its own place
  pub replaced_same : (sides : List TextSide) → replaced x x sides ≡ sides
  replaced_same [] = refl
  replaced_same (s ∷ sides) = λ i. put_same_if s (same_side s x) refl i ∷ replaced_same sides i

module _ (r : ℕ) (to : TextSide) (old : List TextSide) (own : StandsForItself old (Field r)) (root : StandsForItself old to) where
  new_at : (k : ℕ) (d : TextSide) → k < length old → get_or (replaced (Field r) to old) k d ≡ put (Field r) to (get_or old k d)
  new_at k d low = get_or-map (put (Field r) to) old k d d low

  put_text_if : (l : Label) (s : TextSide) (b : Bool) → same_side s (Field r) ≡ b → side_text (Field r) l ≡ side_text to l → side_text (cond b to s) l ≡ side_text s l
  put_text_if l s true e same = sym same ∙ ap (λ x. side_text x l) (sym (one_side s (Field r) e))
  put_text_if l s false e same = refl

  put_text : (l : Label) (s : TextSide) → side_text (Field r) l ≡ side_text to l → side_text (put (Field r) to s) l ≡ side_text s l
  put_text l s same = put_text_if l s (same_side s (Field r)) refl same

  follows_new : (l : Label) → Follows old l → side_text (Field r) l ≡ side_text to l → Follows (replaced (Field r) to old) l
  follows_new l follows same k d low =
      let within : k < length old = subst (λ n. k < n) (length-map old (put (Field r) to)) low in
      follows k d within ∙ sym (put_text l (get_or old k d) same) ∙ ap (λ x. side_text x l) (sym (new_at k d within))

  own_text : (l : Label) → Follows (replaced (Field r) to old) l → side_text (Field r) l ≡ side_text to l
  own_text l follows =
      let within : r < length (replaced (Field r) to old) = subst (λ n. r < n) (sym (length-map old (put (Field r) to))) own.0 in
      let at = new_at r (Field r) own.0 ∙ ap (put (Field r) to) (own.1 (Field r)) ∙ ap (λ b. cond b to (Field r)) (same_as_itself (Field r)) in
      follows r (Field r) within ∙ ap (λ x. side_text x l) at

  follows_old : (l : Label) → Follows (replaced (Field r) to old) l → Follows old l
  follows_old l follows k d low =
      let within : k < length (replaced (Field r) to old) = subst (λ n. k < n) (sym (length-map old (put (Field r) to))) low in
      follows k d within ∙ ap (λ x. side_text x l) (new_at k d low) ∙ put_text l (get_or old k d) (own_text l follows)

  put_kept_if : (q : ℕ) (b : Bool) → (b ≡ true → Field q ≡ to) → cond b to (Field q) ≡ Field q
  put_kept_if q true same = sym (same refl)
  put_kept_if q false same = refl

  still : (x : TextSide) → StandsForItself old x → (same_side x (Field r) ≡ true → x ≡ to) → StandsForItself (replaced (Field r) to old) x
  still (Constant t) is same = tt
  still (Field q) is same =
      (subst (λ n. q < n) (sym (length-map old (put (Field r) to))) is.0, λ d. new_at q d is.0 ∙ ap (put (Field r) to) (is.1 d) ∙ put_kept_if q (same_side (Field q) (Field r)) same)

  put_root_if : (s : TextSide) (b : Bool) → same_side s (Field r) ≡ b → StandsForItself old s → StandsForItself (replaced (Field r) to old) (cond b to s)
  put_root_if s true e is = still to root (λ _. refl)
  put_root_if s false e is = still s is (λ yes. let no : false ≡ true = sym e ∙ yes in cc)

  rooted_new : All (StandsForItself old) old → All (StandsForItself (replaced (Field r) to old)) (replaced (Field r) to old)
  rooted_new rooted k d low =
      let within : k < length old = subst (λ n. k < n) (length-map old (put (Field r) to)) low in
      subst (StandsForItself (replaced (Field r) to old)) (sym (new_at k d within)) (put_root_if (get_or old k d) (same_side (get_or old k d) (Field r)) refl (rooted k d within))

  put_among_if : (constants : List (List ℕ)) (s : TextSide) (b : Bool) → IsAmong constants to → IsAmong constants s → IsAmong constants (cond b to s)
  put_among_if constants s true is at = is
  put_among_if constants s false is at = at

  among_new : (constants : List (List ℕ)) → IsAmong constants to → All (IsAmong constants) old → All (IsAmong constants) (replaced (Field r) to old)
  among_new constants is among k d low =
      let within : k < length old = subst (λ n. k < n) (length-map old (put (Field r) to)) low in
      subst (IsAmong constants) (sym (new_at k d within)) (put_among_if constants (get_or old k d) (same_side (get_or old k d) (Field r)) is (among k d within))

  -- to put a side for a field that stands for itself says that the two are one text
  pub join_of_field : (left right : TextSide) → All (StandsForItself old) old
      → ((l : Label) → Follows old l → side_text left l ≡ side_text right l → side_text (Field r) l ≡ side_text to l)
      → ((l : Label) → Follows old l → side_text (Field r) l ≡ side_text to l → side_text left l ≡ side_text right l)
      → ((constants : List (List ℕ)) → IsAmong constants left → IsAmong constants right → All (IsAmong constants) old → IsAmong constants to)
      → Join left right old (replaced (Field r) to old)
  join_of_field left right rooted there back among = record {
    many = length-map old (put (Field r) to);
    needed = λ l follows same. follows_new l follows (there l follows same);
    enough = λ l follows. let before : Follows old l = follows_old l follows in (before, back l before (own_text l follows));
    rooted = rooted_new rooted;
    among = λ constants x y all. among_new constants (among constants x y all) all;
  }

-- sides that say so already
pub join_of_none : (left right : TextSide) (old : List TextSide) → All (StandsForItself old) old → ((l : Label) → Follows old l → side_text left l ≡ side_text right l) → Join left right old old
join_of_none left right old rooted same = record {
  many = refl;
  needed = λ l follows _. follows;
  enough = λ l follows. (follows, same l follows);
  rooted = rooted;
  among = λ constants x y all. all;
}

module _ (sides : List TextSide) (left right : TextSide) (fits : SideFits (length sides) left) (fits' : SideFits (length sides) right) (rooted : All (StandsForItself sides) sides) where
  text_of_left : (l : Label) → Follows sides l → side_text left l ≡ side_text (stands_for sides left) l
  text_of_left l follows = stand_text sides l left follows fits

  text_of_right : (l : Label) → Follows sides l → side_text right l ≡ side_text (stands_for sides right) l
  text_of_right l follows = stand_text sides l right follows fits'

  -- the left side stands for a field
  pub join_at_left : (x y : TextSide) (r : ℕ) (new : List TextSide) → x ≡ stands_for sides left → y ≡ stands_for sides right → x ≡ Field r → new ≡ replaced x y sides → Join left right sides new
  join_at_left x y r new stands stands' is made =
      let field : stands_for sides left ≡ Field r = sym stands ∙ is in
      let list : replaced (Field r) (stands_for sides right) sides ≡ new = sym (made ∙ (λ i. replaced (is i) (stands' i) sides)) in
      subst (Join left right sides) list (join_of_field r (stands_for sides right) sides
      (subst (StandsForItself sides) field (stand_root sides left rooted fits)) (stand_root sides right rooted fits') left right rooted
      (λ l follows same. ap (λ s. side_text s l) (sym field) ∙ sym (text_of_left l follows) ∙ same ∙ text_of_right l follows)
      (λ l follows same. text_of_left l follows ∙ ap (λ s. side_text s l) field ∙ same ∙ sym (text_of_right l follows))
      (λ constants one other all. stand_among sides constants right all other fits'))

  -- the right side stands for a field
  pub join_at_right : (x y : TextSide) (r : ℕ) (new : List TextSide) → x ≡ stands_for sides left → y ≡ stands_for sides right → y ≡ Field r → new ≡ replaced y x sides → Join left right sides new
  join_at_right x y r new stands stands' is made =
      let field : stands_for sides right ≡ Field r = sym stands' ∙ is in
      let list : replaced (Field r) (stands_for sides left) sides ≡ new = sym (made ∙ (λ i. replaced (is i) (stands i) sides)) in
      subst (Join left right sides) list (join_of_field r (stands_for sides left) sides
      (subst (StandsForItself sides) field (stand_root sides right rooted fits')) (stand_root sides left rooted fits) left right rooted
      (λ l follows same. ap (λ s. side_text s l) (sym field) ∙ sym (text_of_right l follows) ∙ sym same ∙ text_of_left l follows)
      (λ l follows same. text_of_left l follows ∙ sym same ∙ ap (λ s. side_text s l) (sym field) ∙ sym (text_of_right l follows))
      (λ constants one other all. stand_among sides constants left all one fits))

  -- both stand for one constant
  pub join_at_constant : (x y : TextSide) (new : List TextSide) → x ≡ stands_for sides left → y ≡ stands_for sides right → x ≡ y → new ≡ replaced x y sides → Join left right sides new
  join_at_constant x y new stands stands' same made =
      let list : sides ≡ new = sym (made ∙ ap (λ s. replaced x s sides) (sym same) ∙ replaced_same x sides) in
      subst (Join left right sides) list (join_of_none left right sides rooted
      (λ l follows. text_of_left l follows ∙ ap (λ s. side_text s l) (sym stands ∙ same ∙ stands') ∙ sym (text_of_right l follows)))

  -- they stand for two constants
  pub none_at_constants : (x y : TextSide) (s t : List ℕ) → x ≡ stands_for sides left → y ≡ stands_for sides right → x ≡ Constant s → y ≡ Constant t → s ≢ t → (l : Label) → Follows sides l → side_text left l ≢ side_text right l
  none_at_constants x y s t stands stands' is is' apart l follows same =
      apart (sym (text_of_left l follows ∙ ap (λ z. side_text z l) (sym stands ∙ is)) ∙ same ∙ text_of_right l follows ∙ ap (λ z. side_text z l) (sym stands' ∙ is'))

same_if : (s t : List ℕ) (b : Bool) → bytes_eq s t ≡ b → not b ≡ false → s ≡ t
same_if s t true e told = (bytes_eq-Decides s t).0 e
same_if s t false e told = cc

pub same_unless_told : (s t : List ℕ) → not (bytes_eq s t) ≡ false → s ≡ t
same_unless_told s t told = same_if s t (bytes_eq s t) refl told
