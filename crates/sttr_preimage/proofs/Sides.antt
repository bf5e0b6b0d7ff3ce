-- The rules of states that stand in an image as they are, and of all states one after the other.
use Rattle.std.specs.Prelude.{⊤}
use Rattle.std.proofs.Common.{ℕ, ◌+◌, ◌≡◌, ◌<◌, ◌≤◌, ◌⊎◌, inl, inr, Bool, true, Vec, List, [], ◌∷◌, ◌++◌, map, get_or, length, All, Contains, refl, sym, subst, ap, ◌∙◌, arith}
use Rattle.std.proofs.lemmas.List.{length-map, map-append, length-append}
use Rattle.model_tree.specs.Label.{Label}
use Rattle.model_tree.specs.Formula.{EveryAtom, formula_holds}
use Rattle.model_sta.specs.Sets.{Each}
use Rattle.model_sttr.specs.Transducer.{Sttr, GivesSame}
use Rattle.label_core.specs.Meaning.{Meaning}
use Rattle.sta_core.specs.Fits.{RuleFits}
use Rattle.sta_core.specs.Machine.{Machine, PlainRule, plain_rule}
use Rattle.sta_core.specs.Sta.{rule_meaning, AtomsFit}
use Rattle.sta_core.specs.declared.StaRule.{StaRule}
use Rattle.sta_core.proofs.Meaning.{rules_of_automaton}
use Rattle.sttr_core.specs.Machine.{OutMachine}
use Rattle.sttr_theory.specs.Lists.{IsAt, Match}
use Rattle.sttr_theory.specs.Triples.{LookName, of_first, of_second, middle, firsts, seconds}
use Rattle.sttr_theory.specs.Built.{IsCopy, IsPartLook}
use Rattle.model_sttr.proofs.Heads.{in_range}
use Rattle.sttr_theory.proofs.Fits.{made_demands}
use Rattle.sttr_theory.proofs.Grow.{one_more_look}
use Rattle.sttr_run.specs.Fits.{RuleStands}
use Rattle.sttr_run.specs.Sources.{GivesChild}
use Rattle.sttr_preimage.specs.declared.names.Side.{Side}
use Rattle.sttr_preimage.specs.declared.names.Side.TheVariants as side
use Rattle.sttr_preimage.specs.Names.{side_names, Adds}
use Rattle.sttr_preimage.specs.Rules.{IsCopied, AreCopied}
use Rattle.sttr_preimage.specs.Images.{IsSecond, IsMiddle, CanAsk, first_of, second_of, IsLookName, NextTo, IsLookAtom, RowStands, HasRules, HasRows, AreAllRows}
use Rattle.sttr_preimage.proofs.Atoms.{row_in, all_in, in_all, all_map, every_map, every_own}
use Rattle.sttr_preimage.proofs.Middles.{match_mapped, each_to_all, rows_more, all_both}
use Rattle.sttr_preimage.proofs.Numbered.{adds_then, adds_same, adds_wider, adds_extends, adds_length}
use Rattle.sttr_preimage.proofs.Standing.{gives_child}
use Rattle.sttr_theory.proofs.Members.{of_mapped, in_either, in_single}

-- the code's rule fits as plain data
pub stands_plain : {A : Type 0} (ranks : List ℕ) (n : ℕ) (r : StaRule A) → RuleFits ranks n r → RuleStands ranks n (plain_rule r)
stands_plain ranks n r h = record {
  constructor = h.0;
  children = length-map r.demands.items (λ d. d.items) ∙ h.1;
  demands = in_all (All (λ s. s < n)) (map (λ d. d.items) r.demands.items) (λ d at. let (v, there, is) = of_mapped (λ d. d.items) r.demands.items d at in subst (All (λ s. s < n)) is (all_in (λ d. All (λ s. s < n) d.items) r.demands.items h.2 v there));
}

pub all_stand : {A : Type 0} (ranks : List ℕ) (n : ℕ) (rs : List (StaRule A)) → All (RuleFits ranks n) rs → All (RuleStands ranks n) (map plain_rule rs)
all_stand ranks n rs h = in_all (RuleStands ranks n) (map plain_rule rs) (λ p at. let (r, there, is) = of_mapped plain_rule rs p at in subst (RuleStands ranks n) is (stands_plain ranks n r (all_in (RuleFits ranks n) rs h r there)))

-- so do all rules of a machine
pub looks_stand : {A X : Type 0} (m : Machine A) (rows : List (Vec (StaRule A) X)) → map (λ those. map plain_rule those.items) rows ≡ m.rules → All (λ those. All (RuleFits m.ranks (length m.rules)) those.items) rows → All (All (RuleStands m.ranks (length m.rules))) m.rules
looks_stand m rows e h = subst (All (All (RuleStands m.ranks (length m.rules)))) e (in_all (All (RuleStands m.ranks (length m.rules))) (map (λ those. map plain_rule those.items) rows) (λ rs at.
    let (those, there, is) = of_mapped (λ those. map plain_rule those.items) rows rs at in
    subst (All (RuleStands m.ranks (length m.rules))) is (all_stand m.ranks (length m.rules) those.items (all_in (λ those. All (RuleFits m.ranks (length m.rules)) those.items) rows h those there))))

module _ {A M V W : Type 0} (is_put : M → A → A → Type 0) (make : M → Label → Label) {label_of : V → Label} {holds : A → Label → Bool} (N : Meaning label_of holds W) (fits : A → Type 0) (f g : OutMachine A M) where
  abbrev F : Sttr Label
  F = first_of holds make f g

  abbrev G : Sttr Label
  G = second_of holds make f g

  abbrev R : List ℕ
  R = f.looks.ranks

  abbrev Known : Type 0 → Type 0 → LookName → Type 0
  Known = IsLookName holds make f g

  abbrev Row : Type 0 → Type 0 → ℕ → PlainRule A → Type 0
  Row = RowStands is_put make N fits f g

  module _ (of : Side) (S P : Type 0) (n : ℕ) (known : (t : ℕ) → t < n → (x : LookName) → Contains (side_names of (t ∷ [])) x → Known S P x) (old new : List LookName) (rs made : List (PlainRule A)) (h : AreCopied old new of rs made) (stand : All (RuleStands R n) rs) where
    copy_is : (m r : PlainRule A) → IsCopied new of m r → IsCopy R N.has F G new (side_names of) (rule_meaning holds m) (rule_meaning holds r)
    copy_is m r is = record { same_constructor = is.constructor; same_guard = λ l d. ap (formula_holds (λ b. holds b l)) is.guard; same_demands = is.each }

    pub copies_are : Match (IsCopy R N.has F G new (side_names of)) (map (rule_meaning holds) made) (map (rule_meaning holds) rs)
    copies_are = match_mapped (IsCopied new of) (IsCopy R N.has F G new (side_names of)) (rule_meaning holds) (rule_meaning holds) made rs (λ m r at mine is. copy_is m r is) h.copied

    one_name : (states : List ℕ) (x : LookName) → Contains (side_names of states) x → (t : ℕ) × Contains states t × Contains (side_names of (t ∷ [])) x
    one_name states x c = by of c
      where
        by : (s : Side) → Contains (side_names s states) x → (t : ℕ) × Contains states t × Contains (side_names s (t ∷ [])) x
        by side.First c = let (t, at, is) = of_mapped of_first states x c in (t, at, (0, omega arith, is))
        by side.Second c = let (t, at, is) = of_mapped of_second states x c in (t, at, (0, omega arith, is))

    demand_low : (r : PlainRule A) → RuleStands R n r → (j t : ℕ) → Contains (get_or r.demands j []) t → t < n
    demand_low r st j t c = by r.demands j st.demands c
      where
        by : (ds : List (List ℕ)) (j : ℕ) → All (All (λ s. s < n)) ds → Contains (get_or ds j []) t → t < n
        by ds j all c = all_in (λ s. s < n) (get_or ds j []) (all_in (All (λ s. s < n)) ds all (get_or ds j []) (row_in ds j (in_range ds j t c))) t c

    pub copies_add : Adds old new (Known S P)
    copies_add = adds_wider old new _ (Known S P) h.adds (λ x w. let (t, at, c) = one_name (get_or w.0.demands w.2 []) x w.3 in known t (demand_low w.0 (all_in (RuleStands R n) rs stand w.0 w.1) w.2 t at) x c)

    pub copies_stand : All (λ r. EveryAtom fits r.guard × EveryAtom (IsLookAtom is_put make N fits f g S P) r.guard) rs → All (Row S P (length new)) made
    copies_stand atoms = in_all (Row S P (length new)) made (λ m at.
        let (r, mine, is) = h.copied.0 m at in
        let st = all_in (RuleStands R n) rs stand r mine in
        let every = all_in (λ r. EveryAtom fits r.guard × EveryAtom (IsLookAtom is_put make N fits f g S P) r.guard) rs atoms r mine in
        record {
          stands = record {
            constructor = subst (λ c. c < length R) (sym is.constructor) st.constructor;
            children = is.count ∙ st.children ∙ ap (λ c. get_or R c 0) (sym is.constructor);
            demands = each_to_all (Each (λ s. s < length new)) (All (λ s. s < length new)) (λ d e. each_to_all (λ s. s < length new) (λ s. s < length new) (λ s low. low) d e) m.demands
                (made_demands R N.has F G new (length new) refl (rule_meaning holds m) _ _ _ (copy_is m r is));
          };
          fit = subst (EveryAtom fits) (sym is.guard) every.0;
          atoms = subst (EveryAtom (IsLookAtom is_put make N fits f g S P)) (sym is.guard) every.1;
        })

  module _ (same : (b : A) → N.equal b b ≡ true) (old new : List LookName) (rs made : List (PlainRule A)) (s : ℕ) where
    pub first_done : s < length f.looks.rules → All (All (RuleStands R (length f.looks.rules))) f.looks.rules → AtomsFit fits f.looks → rs ≡ get_or f.looks.rules s [] → AreCopied old new side.First rs made → HasRules is_put make N fits f g old new (of_first s) made
    first_done low looks fit is h =
        let known : (t : ℕ) → t < length f.looks.rules → (x : LookName) → Contains (firsts (t ∷ [])) x → Known ⊥ ⊥ x = λ t lt x c. subst (Known ⊥ ⊥) (in_single (of_first t) x c) lt in
        let those : Contains f.looks.rules rs = subst (Contains f.looks.rules) (sym is) (row_in f.looks.rules s low) in
        let stand = all_in (All (RuleStands R (length f.looks.rules))) f.looks.rules looks rs those in
        record {
          adds = copies_add side.First ⊥ ⊥ (length f.looks.rules) known old new rs made h stand;
          are = subst (Match (IsCopy R N.has F G new firsts) (map (rule_meaning holds) made)) (ap (map (rule_meaning holds)) is ∙ sym (rules_of_automaton holds f.looks s)) (copies_are side.First ⊥ ⊥ (length f.looks.rules) known old new rs made h stand);
          stand = copies_stand side.First ⊥ ⊥ (length f.looks.rules) known old new rs made h stand (in_all (λ r. EveryAtom fits r.guard × EveryAtom (IsLookAtom is_put make N fits f g ⊥ ⊥) r.guard) rs (λ r at. (
            all_in (λ r. EveryAtom fits r.guard) rs (all_in (λ rules. All (λ r. EveryAtom fits r.guard) rules) f.looks.rules fit rs those) r at,
            every_own (IsLookAtom is_put make N fits f g ⊥ ⊥) r.guard (λ b c. inl (b, inl (rs, those, r, at, c), same b)),
          )));
        }

    pub second_done : s < length g.looks.rules → g.looks.ranks ≡ f.looks.ranks → AtomsFit fits g.looks → All (RuleStands g.looks.ranks (length g.looks.rules)) rs → rs ≡ get_or g.looks.rules s [] → AreCopied old new side.Second rs made → HasRules is_put make N fits f g old new (of_second s) made
    second_done low same_ranks speaks stand' is h =
        let known : (t : ℕ) → t < length g.looks.rules → (x : LookName) → Contains (seconds (t ∷ [])) x → Known ⊤ ⊥ x = λ t lt x c. subst (Known ⊤ ⊥) (in_single (of_second t) x c) (lt, inr tt) in
        let those : Contains g.looks.rules rs = subst (Contains g.looks.rules) (sym is) (row_in g.looks.rules s low) in
        let stand = subst (λ rk. All (RuleStands rk (length g.looks.rules)) rs) same_ranks stand' in
        record {
          adds = copies_add side.Second ⊤ ⊥ (length g.looks.rules) known old new rs made h stand;
          are = subst (Match (IsCopy R N.has F G new seconds) (map (rule_meaning holds) made)) (ap (map (rule_meaning holds)) is ∙ sym (rules_of_automaton holds g.looks s)) (copies_are side.Second ⊤ ⊥ (length g.looks.rules) known old new rs made h stand);
          stand = copies_stand side.Second ⊤ ⊥ (length g.looks.rules) known old new rs made h stand (in_all (λ r. EveryAtom fits r.guard × EveryAtom (IsLookAtom is_put make N fits f g ⊤ ⊥) r.guard) rs (λ r at. (
            all_in (λ r. EveryAtom fits r.guard) rs (all_in (λ rules. All (λ r. EveryAtom fits r.guard) rules) g.looks.rules speaks rs those) r at,
            every_own (IsLookAtom is_put make N fits f g ⊤ ⊥) r.guard (λ b c. inr (inr (inr tt, (b, inl (rs, those, r, at, c), same b)))),
          )));
        }

  -- ---- all names, one after the other

  module _ (S P : Type 0) where
    second_there : (x : LookName) → Known S P x → IsSecond x → GivesSame F ⊎ S
    second_there (of_first s) k is = absurd is
    second_there (of_second s) k is = k.1
    second_there (middle q all) k is = absurd is

    pub middle_there : (x : LookName) → Known S P x → IsMiddle x → P
    middle_there (of_first s) k is = absurd is
    middle_there (of_second s) k is = absurd is
    middle_there (middle q all) k is = k.2

    gives_there : (x : LookName) → Known S P x → GivesChild f ⊎ IsSecond x → GivesChild f ⊎ S
    gives_there x k (inl g) = inl g
    gives_there x k (inr is) = elim (second_there x k is) [ inl g ↦ inl (gives_child holds make f g) | inr s ↦ inr s ]

    -- what a name asks may be asked
    next_known : (x y : LookName) → Known S P x → NextTo holds make f g x y → Known S P y
    next_known x (of_first t) k next = next
    next_known x (of_second t) k next = (next.0, elim next.1 [ inl g ↦ inl g | inr is ↦ second_there x k is ])
    next_known x (middle q all) k next = (next.0, next.1, middle_there x k next.2)

    pub own_known : (x : LookName) → Known S P x → Known (IsSecond x) (IsMiddle x) x
    own_known (of_first s) k = k
    own_known (of_second s) k = (k.0, inr tt)
    own_known (middle q all) k = (k.0, k.1, tt)

    row_known : (x : LookName) → Known S P x → (n : ℕ) (r : PlainRule A) → Row (IsSecond x) (IsMiddle x) n r → Row S P n r
    row_known x k n r h = record {
      stands = h.stands;
      fit = h.fit;
      atoms = every_map (IsLookAtom is_put make N fits f g (IsSecond x) (IsMiddle x)) (IsLookAtom is_put make N fits f g S P) wider r.guard h.atoms;
    }
      where
        wider : (b : A) → IsLookAtom is_put make N fits f g (IsSecond x) (IsMiddle x) b → IsLookAtom is_put make N fits f g S P b
        wider b (inl old) = inl old
        wider b (inr (inl (is, put))) = inr (inl (middle_there x k is, put))
        wider b (inr (inr (is, asked))) = inr (inr (gives_there x k is, asked))

    pub record RowsSoFar (old new : List LookName) (rows : List (List (PlainRule A))) (place : ℕ) : Type 0 where
      pub adds : Adds old new (Known S P)
      pub built : HasRows is_put make N fits f g S P new rows
      pub count : length rows ≡ place

    pub rows_none : (names : List LookName) (rows : List (List (PlainRule A))) → ((x : LookName) → Contains names x → Known S P x) → rows ≡ [] → RowsSoFar names names rows 0
    rows_none names rows known e = subst (λ l. RowsSoFar names names l 0) (sym e) (record {
      adds = adds_same names names _ refl;
      built = record { known = known; part = record { each = λ i x low at. absurd (omega (arith, low)); no_more = omega arith }; stand = in_all _ [] (λ x c. absurd (omega (arith, c.1))) };
      count = refl;
    })

    -- one more name
    pub rows_next : (o b c : List LookName) (x : LookName) (rows next : List (List (PlainRule A))) (rs : List (PlainRule A)) (place : ℕ) → RowsSoFar o b rows place → IsAt b place x → HasRules is_put make N fits f g b c x rs → next ≡ rows ++ rs ∷ [] → RowsSoFar o c next (place + 1)
    rows_next o b c x rows next rs place h at new e =
        let here : Contains b x = (place, at.0, at.1) in
        let k = h.built.known x here in
        let adds = adds_wider b c _ (Known S P) new.adds (λ y n. next_known x y k n) in
        subst (λ l. RowsSoFar o c l (place + 1)) (sym e) (record {
          adds = adds_then o b c _ _ _ h.adds adds (λ y w. w) (λ y w. w);
          built = record {
            known = λ y there. elim (in_either b adds.more y (subst (λ l. Contains l y) adds.behind there)) [ inl before ↦ h.built.known y before | inr after ↦ adds.wanted y after ];
            part = subst (IsPartLook R N.has F G c) (sym (map-append (map (rule_meaning holds)) rows (rs ∷ [])))
                (one_more_look R N.has F G b c (adds_extends b c _ adds) (map (map (rule_meaning holds)) rows) h.built.part x (map (rule_meaning holds) rs)
                (subst (λ i. IsAt c i x) (sym (length-map rows (map (rule_meaning holds)) ∙ h.count)) (adds_extends b c _ adds place x at)) new.are);
            stand = all_both (All (Row S P (length c))) rows (rs ∷ [])
                (all_map (All (Row S P (length b))) (All (Row S P (length c))) rows (λ those all. rows_more is_put make N fits f g S P (length b) (length c) (adds_length b c _ adds) those all) h.built.stand)
                (in_all (All (Row S P (length c))) (rs ∷ []) (λ those one. subst (All (Row S P (length c))) (in_single rs those one) (all_map (Row (IsSecond x) (IsMiddle x) (length c)) (Row S P (length c)) rs (row_known x k (length c)) new.stand)));
          };
          count = let n = length-append rows (rs ∷ []) in omega (arith, n, h.count);
        })

    pub rows_all : (o b : List LookName) (rows : List (List (PlainRule A))) (place : ℕ) → RowsSoFar o b rows place → length b ≤ place → AreAllRows is_put make N fits f g S P o b rows
    rows_all o b rows place h past = record { adds = h.adds; built = h.built; count = let few = h.built.part.no_more in let m = length-map rows (map (rule_meaning holds)) in omega (arith, few, m, h.count, past) }

    -- what is needed for one of the names
    pub can_next : {T : Type 0} (atom_fits : T → A → Type 0) (map_fits map_makes : T → M → Type 0) (theory : T) → CanAsk atom_fits map_fits map_makes theory f g S P → (x : LookName) → Known S P x → CanAsk atom_fits map_fits map_makes theory f g (IsSecond x) (IsMiddle x)
    can_next atom_fits map_fits map_makes theory can x k = record {
      looks = can.looks;
      stands = can.stands;
      labels = can.labels;
      second_looks = can.second_looks;
      second_stands = can.second_stands;
      makes = λ is. can.makes (middle_there x k is);
      ranks = λ is. can.ranks (gives_there x k is);
      speaks = λ is. can.speaks (gives_there x k is);
    }
