-- An image whose states all have their rules.
use Rattle.std.proofs.Common.{ℕ, ℤ, ◌≡◌, ◌<◌, ◌⊎◌, inl, inr, Bool, Vec, List, [], ◌++◌, map, length, All, Contains, sym, subst, ap, ◌∙◌, arith}
use Rattle.std.proofs.lemmas.List.{length-map}
use Rattle.model_tree.specs.Label.{Label}
use Rattle.model_tree.specs.Formula.{EveryAtom}
use Rattle.model_sttr.specs.Transducer.{Sttr, GivesSame}
use Rattle.label_core.specs.Meaning.{Meaning}
use Rattle.sta_core.specs.Fits.{RuleFits, RulesFit}
use Rattle.sta_core.specs.Machine.{Machine, PlainRule, plain_rule}
use Rattle.sta_core.specs.Sta.{automaton_of, rule_meaning, AtomsFit}
use Rattle.sta_core.specs.declared.StaRule.{StaRule}
use Rattle.sta_core.specs.declared.Lang.{Lang}
use Rattle.sttr_core.specs.Machine.{OutMachine}
use Rattle.sttr_core.specs.declared.sttr.Trans.{Trans}
use Rattle.sttr_theory.specs.Lists.{IsAt}
use Rattle.sttr_theory.specs.Triples.{LookName, of_first, of_second, middle}
use Rattle.sttr_theory.specs.Built.{IsBuiltLook, LookNameFits}
use Rattle.sttr_theory.specs.Results.{AreNames, IsBuiltPreImage}
use Rattle.sttr_theory.proofs.Grow.{all_looks}
use Rattle.sttr_run.specs.Fits.{RuleStands, SttrStands}
use Rattle.sttr_run.specs.Sources.{HasAtom, HasAtomIn, HasMap, GivesChild}
use Rattle.sttr_run.specs.declared.running.RunStop.{RunStop}
use Rattle.sttr_run.specs.declared.running.RunStop.TheVariants as stop
use Rattle.sttr_core.specs.Fits.{LabelsFit}
use Rattle.sttr_preimage.specs.Names.{IsNumber}
use Rattle.sttr_preimage.specs.Images.{IsSecond, IsMiddle, HasOne, CanAsk, first_of, second_of, IsLookName, IsLookAtom, RowStands, AreAllRows}
use Rattle.sttr_preimage.specs.Through.{nothing_of, IsAtomOf, IsThroughAtom, IsThroughStop}
use Rattle.sttr_preimage.specs.Results.{trans_at, auto_at, IsLanguageFrom, IsAskedAtom, IsImageAtom, IsImageStop, MakesAsked, SpeaksOfInputs, StandsUnchanged}
use Rattle.sttr_preimage.proofs.Atoms.{all_in, in_all, all_map, every_map}
use Rattle.sttr_preimage.proofs.Numbered.{adds_extends}
use Rattle.sttr_preimage.proofs.Standing.{all_to_each, as_many_rules, gives_child}
use Rattle.sttr_theory.proofs.Members.{to_mapped}

abbrev pub machine : {A : Type 0} → List ℕ → List (List (PlainRule A)) → Machine A
machine ranks rows = record { ranks = ranks; rules = rows }

-- a rule that stands as plain data fits as the code's
pub plain_fits : {A : Type 0} (ranks : List ℕ) (n : ℕ) (r : StaRule A) → RuleStands ranks n (plain_rule r) → RuleFits ranks n r
plain_fits ranks n r h = (
  h.constructor,
  sym (length-map r.demands.items (λ d. d.items)) ∙ h.children,
  in_all (λ d. All (λ s. s < n) d.items) r.demands.items (λ d at. all_in (All (λ s. s < n)) (map (λ d. d.items) r.demands.items) h.demands d.items (to_mapped (λ d. d.items) r.demands.items d at)),
)

pub rules_fit : {A G : Type 0} (given ranks : List ℕ) (n : ℕ) (rows : List (Vec (StaRule A) G)) → given ≡ ranks → length (map (λ those. map plain_rule those.items) rows) ≡ n → All (All (RuleStands ranks n)) (map (λ those. map plain_rule those.items) rows) → RulesFit given rows
rules_fit given ranks n rows e many h =
    let count : n ≡ length rows = sym many ∙ length-map rows (λ those. map plain_rule those.items) in
    in_all (λ those. All (RuleFits given (length rows)) those.items) rows (λ those at. in_all (RuleFits given (length rows)) those.items (λ r mine.
    let stands = all_in (RuleStands ranks n) (map plain_rule those.items) (all_in (All (RuleStands ranks n)) (map (λ those. map plain_rule those.items) rows) h (map plain_rule those.items) (to_mapped (λ those. map plain_rule those.items) rows those at)) (plain_rule r) (to_mapped plain_rule those.items r mine) in
    plain_fits given (length rows) r (subst (λ rk. RuleStands rk (length rows) (plain_rule r)) (sym e) (subst (λ k. RuleStands ranks k (plain_rule r)) count stands))))

module _ {A M V W : Type 0} (is_put : M → A → A → Type 0) (make : M → Label → Label) {label_of : V → Label} {holds : A → Label → Bool} (N : Meaning label_of holds W) (fits : A → Type 0) (f g : OutMachine A M) where
  abbrev F : Sttr Label
  F = first_of holds make f g

  abbrev G : Sttr Label
  G = second_of holds make f g

  -- a name that may stand there fits, where no state that is asked stands for itself
  pub name_fits : (S P : Type 0) → (S → GivesSame F) → (x : LookName) → IsLookName holds make f g S P x → LookNameFits F G x
  name_fits S P same (of_first s) k = subst (λ n. s < n) (sym (length-map f.looks.rules (map (rule_meaning holds)))) k
  name_fits S P same (of_second s) k = (subst (λ n. s < n) (sym (length-map g.looks.rules (map (rule_meaning holds)))) k.0, elim k.1 [ inl g ↦ g | inr s ↦ same s ])
  name_fits S P same (middle q all) k = (
    subst (λ n. q < n) (sym (as_many_rules holds make f)) k.0,
    all_to_each (λ s. s < length g.looks.rules) (λ s. s < length G.looks) (λ s low. subst (λ n. s < n) (sym (length-map g.looks.rules (map (rule_meaning holds)))) low) all k.1,
  )

  pub image_atom : (S P : Type 0) → (S → GivesSame F) → (GivesSame F → GivesChild f) → (b : A) → IsLookAtom is_put make N fits f g S P b → IsThroughAtom N.equal is_put f g b
  image_atom S P same child b (inl old) = inl old
  image_atom S P same child b (inr (inl (p, put))) = inr (inl put)
  image_atom S P same child b (inr (inr (inl g, (a, has, e)))) = inr (inr (g, a, has, e))
  image_atom S P same child b (inr (inr (inr s, (a, has, e)))) = inr (inr (child (same s), a, has, e))

  module _ (S P : Type 0) (old new : List LookName) (rows : List (List (PlainRule A))) (h : AreAllRows is_put make N fits f g S P old new rows) where
    pub look_built : IsBuiltLook f.looks.ranks N.has F G new (map (map (rule_meaning holds)) rows)
    look_built = all_looks f.looks.ranks N.has F G new (map (map (rule_meaning holds)) rows) h.built.part (length-map rows (map (rule_meaning holds)) ∙ h.count)

    pub rows_fit : {X : Type 0} (given : List ℕ) (code : List (Vec (StaRule A) X)) → given ≡ f.looks.ranks → map (λ those. map plain_rule those.items) code ≡ rows → RulesFit given code
    rows_fit given code e is = rules_fit given f.looks.ranks (length new) code e (ap length is ∙ h.count)
        (subst (All (All (RuleStands f.looks.ranks (length new)))) (sym is) (all_map (All (RowStands is_put make N fits f g S P (length new))) (All (RuleStands f.looks.ranks (length new))) rows (λ those all. all_map (RowStands is_put make N fits f g S P (length new)) (RuleStands f.looks.ranks (length new)) those (λ r st. st.stands) all) h.built.stand))

    pub every_name : (Q : LookName → Type 0) → ((x : LookName) → IsLookName holds make f g S P x → Q x) → AreNames Q new
    every_name Q to i x at = to x (h.built.known x (i, at.0, at.1))

    pub every_fit : All (λ rules. All (λ r. EveryAtom fits r.guard) rules) rows
    every_fit = all_map (All (RowStands is_put make N fits f g S P (length new))) (All (λ r. EveryAtom fits r.guard)) rows (λ those all. all_map (RowStands is_put make N fits f g S P (length new)) (λ r. EveryAtom fits r.guard) those (λ r st. st.fit) all) h.built.stand

    pub every_atom : (Q : A → Type 0) → ((b : A) → IsLookAtom is_put make N fits f g S P b → Q b) → All (λ rules. All (λ r. EveryAtom Q r.guard) rules) rows
    every_atom Q to = all_map (All (RowStands is_put make N fits f g S P (length new))) (All (λ r. EveryAtom Q r.guard)) rows (λ those all. all_map (RowStands is_put make N fits f g S P (length new)) (λ r. EveryAtom Q r.guard) those (λ r st. every_map (IsLookAtom is_put make N fits f g S P) Q to r.guard st.atoms) all) h.built.stand

pub with_ranks : {A : Type 0} (rows : List (List (PlainRule A))) (p q : List ℕ) → p ≡ q → (machine p rows) ≡ (machine q rows)
with_ranks rows p q e = ap (λ r. machine r rows) e

-- ---- an automaton that is asked

module _ {A M : Type 0} (asked : Machine A) where
  pub asked_atom : (a : A) → HasAtomIn {M = M} (nothing_of asked) a → HasAtom asked.rules a
  asked_atom a (inl is) = is
  asked_atom a (inr (those, at, o, there, more)) = absurd (omega (arith, at.1))

  pub no_map : (k : M) → HasMap (nothing_of asked) k → ⊥
  no_map k (those, at, o, there, more) = absurd (omega (arith, at.1))

  pub asked_labels : (fits : A → Type 0) (map_fits : M → Type 0) → AtomsFit fits asked → LabelsFit fits map_fits (nothing_of asked)
  asked_labels fits map_fits fit = record { looks = fit; guards = in_all _ [] (λ x c. absurd (omega (arith, c.1))); maps = in_all _ [] (λ x c. absurd (omega (arith, c.1))) }

  pub asked_stands : SttrStands {M = M} (nothing_of asked)
  asked_stands = in_all _ [] (λ x c. absurd (omega (arith, c.1)))

  -- what is needed to ask it
  pub can_ask : {T : Type 0} (atom_fits : T → A → Type 0) (map_fits map_makes : T → M → Type 0) (theory : T) (f : OutMachine A M) (S P : Type 0) → All (All (RuleStands f.looks.ranks (length f.looks.rules))) f.looks.rules → SttrStands f → LabelsFit (atom_fits theory) (map_fits theory) f
      → All (All (RuleStands asked.ranks (length asked.rules))) asked.rules → (P → MakesAsked atom_fits map_makes f asked) → (GivesChild f ⊎ S → SpeaksOfInputs (atom_fits theory) f asked) → CanAsk atom_fits map_fits map_makes theory f (nothing_of asked) S P
  can_ask atom_fits map_fits map_makes theory f S P looks stands labels second makes speaks = record {
    looks = looks;
    stands = stands;
    labels = labels;
    second_looks = second;
    second_stands = asked_stands;
    makes = λ p. let (made, maps, fit) = makes p in (made, maps, asked_labels (atom_fits made) (map_fits made) fit);
    ranks = λ is. (speaks is).ranks;
    speaks = λ is. asked_labels (atom_fits theory) (map_fits theory) (speaks is).fit;
  }

  module _ (eq : A → A → Bool) (is_put : M → A → A → Type 0) (f : OutMachine A M) where
    -- an atom of its own
    pub own_asked : (b : A) → IsAtomOf eq (nothing_of {M = M} asked) b → IsAskedAtom eq f asked.rules b
    own_asked b (a, has, e) = (a, asked_atom a has, e)

    pub atom_asked : (b : A) → IsThroughAtom eq is_put f (nothing_of asked) b → IsImageAtom eq f asked.rules is_put b
    atom_asked b (inl old) = inl old
    atom_asked b (inr (inl (m, is, a, has, d, put, e))) = inr (inl (m, is, a, asked_atom a has, d, put, e))
    atom_asked b (inr (inr (g, a, has, e))) = inr (inr (g, (a, asked_atom a has, e)))

  -- numbers
  pub stop_asked : (put_outside : M → A → ℤ → Type 0) (chain_outside : M → M → ℤ → Type 0) (f : OutMachine A M) (e : RunStop) → IsThroughStop put_outside chain_outside f (nothing_of asked) e → IsImageStop put_outside f asked.rules e
  stop_asked put_outside chain_outside f (stop.Range n) (m, is, inl (a, has, out)) = (m, is, a, asked_atom a has, out)
  stop_asked put_outside chain_outside f (stop.Range n) (m, is, inr (k, has, out)) = absurd (no_map k has)
  stop_asked put_outside chain_outside f stop.Memory h = tt

-- ---- images that begin with one state between

module _ {A M V W : Type 0} (is_put : M → A → A → Type 0) (make : M → Label → Label) {label_of : V → Label} {holds : A → Label → Bool} (N : Meaning label_of holds W) (fits : A → Type 0) (g : Trans A M) (a : Machine A) (all : List ℕ) (empty names : List LookName) (none : empty ≡ []) (n : ℕ) (is : IsNumber empty names (middle g.state all) n) where
  abbrev f : OutMachine A M
  f = g.sttr

  abbrev S : Type 0
  S = HasOne IsSecond names

  abbrev P : Type 0
  P = HasOne IsMiddle names

  only_start : (y : LookName) → Contains names y → middle g.state all ≡ y
  only_start y c = is.adds.wanted y (subst (λ l. Contains l y) (is.adds.behind ∙ ap (λ l. l ++ is.adds.more) none) c)

  no_second : S → ⊥
  no_second (x, c, second) = subst IsSecond (sym (only_start x c)) second

  start_there : Contains names (middle g.state all)
  start_there = (n, is.at.0, is.at.1)

  pub start_known : g.state < length f.rules → All (λ s. s < length a.rules) all → (y : LookName) → Contains names y → IsLookName holds make f (nothing_of a) S P y
  start_known low states y c = subst (IsLookName holds make f (nothing_of a) S P) (only_start y c) (low, states, (middle g.state all, start_there, tt))

  pub start_can : {T : Type 0} (atom_fits : T → A → Type 0) (map_fits map_makes : T → M → Type 0) (theory : T) → All (All (RuleStands f.looks.ranks (length f.looks.rules))) f.looks.rules → SttrStands f → LabelsFit (atom_fits theory) (map_fits theory) f → All (All (RuleStands a.ranks (length a.rules))) a.rules → MakesAsked atom_fits map_makes f a
      → StandsUnchanged (atom_fits theory) f a → CanAsk atom_fits map_fits map_makes theory f (nothing_of a) S P
  start_can atom_fits map_fits map_makes theory looks stands labels second makes unchanged = can_ask a atom_fits map_fits map_makes theory f S P looks stands labels second (λ p. makes) (λ either. elim either [ inl child ↦ unchanged child | inr s ↦ absurd (no_second s) ])

  module _ (new : List LookName) (rows : List (List (PlainRule A))) (h : AreAllRows is_put make N fits f (nothing_of a) S P names new rows) (c : Lang A) (sta : c.sta ≡ record { ranks = f.looks.ranks; rules = rows }) (state : c.state ≡ n) where
    start_at : IsAt new c.state (middle g.state all)
    start_at = subst (λ k. IsAt new k (middle g.state all)) (sym state) (adds_extends names new _ h.adds n (middle g.state all) is.at)

    pub preimage_built : (ns : List LookName) × IsBuiltPreImage f.looks.ranks N.has (trans_at holds make g) (automaton_of holds a) all ns (auto_at holds c)
    preimage_built = (
      new,
      record {
        built = subst (λ (m : Machine A). IsBuiltLook f.looks.ranks N.has (first_of holds make f (nothing_of a)) (second_of holds make f (nothing_of a)) new (automaton_of holds m)) (sym sta) (look_built is_put make N fits f (nothing_of a) S P names new rows h);
        fit = every_name is_put make N fits f (nothing_of a) S P names new rows h (LookNameFits (first_of holds make f (nothing_of a)) (second_of holds make f (nothing_of a))) (λ x k. name_fits is_put make N fits f (nothing_of a) S P (λ s. absurd (no_second s)) x k);
        start = start_at;
      },
    )

    pub language_made : IsLanguageFrom is_put N fits f a.rules c
    language_made = record {
      ranks = ap (λ m. m.ranks) sta;
      low = subst (λ k. c.state < k) (sym h.count ∙ ap (λ m. length m.rules) (sym sta)) start_at.0;
      fit = subst (AtomsFit fits) (sym sta) (every_fit is_put make N fits f (nothing_of a) S P names new rows h);
      atoms = subst (AtomsFit (IsImageAtom N.equal f a.rules is_put)) (sym sta) (every_atom is_put make N fits f (nothing_of a) S P names new rows h (IsImageAtom N.equal f a.rules is_put) (λ b k. atom_asked a N.equal is_put f b (image_atom is_put make N fits f (nothing_of a) S P (λ s. absurd (no_second s)) (gives_child holds make f) b k)));
    }
