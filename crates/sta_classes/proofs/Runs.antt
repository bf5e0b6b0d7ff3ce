-- The search from its first turn to its last.
use Rattle.std.proofs.Common.{ℕ, Vec, ◌≡◌, ◌<◌, ◌≤◌, ◌+◌, ◌-◌, inl, inr, Bool, List, [], ◌∷◌, ◌++◌, length, get_or, Contains, sym, ap, subst, ◌∙◌, arith}
use Rattle.std.proofs.lemmas.Bool.{cases_lt}
use Rattle.std.proofs.lemmas.List.{length_push, length-map, map-append}
use Rattle.model_tree.specs.Label.{Label}
use Rattle.model_sta.specs.Reached.{IsComplete}
use Rattle.model_sta.specs.Least.{rows_of}
use Rattle.model_sta.proofs.Reached.{same_default}
use Rattle.label_core.specs.Meaning.{Meaning}
use Rattle.sta_core.specs.declared.StaRule.{StaRule}
use Rattle.sta_classes.specs.Rules.{plain_rules, meaning_of}
use Rattle.sta_classes.specs.Rows.{founds, class_rows, lists_of}
use Rattle.sta_classes.specs.Lists.{IsNewList}
use Rattle.sta_classes.specs.Pending.{AreKept, IsBetter, IsTaken, IsDone}
use Rattle.sta_classes.specs.Searched.{firsts_of, listed_at, AreKinds, NextPlaces, IsSound, AreSplit, HasOffered, HasNewBefore, HasNewOffered, HasAllOffered, IsUnderway, GoesOn}
use Rattle.sta_classes.specs.declared.class.Class.{Class}
use Rattle.sta_classes.specs.declared.known.Known.{Known}
use Rattle.sta_classes.specs.declared.place.Place.{Place}
use Rattle.sta_classes.specs.declared.pending.Pending.{Pending}
use Rattle.sta_classes.specs.declared.rules.Rules.{Rules}
use Rattle.sta_classes.specs.declared.search.Offers.{Offers}
use Rattle.sta_classes.specs.declared.splits.Splits.{Splits}
use Rattle.sta_classes.proofs.Firsts.{cheapest, kinds_more, all_opened}
use Rattle.sta_classes.proofs.Turns.{opened_later, sound_taken, all_found}

module _ {A V W G : Type 0} {label_of : V → Label} {holds : A → Label → Bool} (M : Meaning label_of holds W) (ranks : List ℕ) (rules : List (Vec (StaRule A) G)) where
  abbrev pub Sound : List (Class V) → Pending V → Type 0
  Sound classes s = IsSound ranks M.has M.keeps (meaning_of holds (plain_rules rules)) label_of classes s

module _ {A V W G H : Type 0} {label_of : V → Label} {holds : A → Label → Bool} (M : Meaning label_of holds W) (ranks : List ℕ) (rules : List (Vec (StaRule A) G)) where
  -- a list of kinds that the last class stands in is new, and each is before there are classes
  new_list : (classes : List (Class V)) (places : List (Vec Place H)) → AreKinds ranks rules classes places → (c : ℕ) → c < length ranks → (ks : List ℕ) → length ks ≡ get_or ranks c 0 → ((j : ℕ) → j < length ks → Contains (listed_at places c j) (get_or ks j 0)) → (0 < length classes → Contains ks (length classes - 1))
      → IsNewList (firsts_of (get_or (lists_of places) c [])) (length classes) ks
  new_list classes places kinds c low ks wide listed last =
      let long : length (firsts_of (get_or (lists_of places) c [])) ≡ get_or ranks c 0 = length-map (get_or (lists_of places) c []) (λ p. p.firsts.items) ∙ (kinds.each c low).many in
      (wide ∙ sym long, λ j j_low. listed j (omega (arith, j_low, long, wide)), last)

  -- before there are classes, all lists are new
  pub run_first : (classes : List (Class V)) (places : List (Vec Place H)) (s : Pending V) → classes ≡ [] → AreKinds ranks rules classes places → HasNewOffered M ranks rules classes places s → HasAllOffered M ranks rules classes places s
  run_first classes places s none kinds new c low ks wide listed = new c low ks (new_list classes places kinds c low ks wide listed (λ some. absurd (omega (arith, some, ap length none))))

  module _ (classes : List (Class V)) (places : List (Vec Place H)) (old mid : Pending V) (sound : Sound M ranks rules classes old) (kinds : AreKinds ranks rules classes places) (opened : HasAllOffered M ranks rules classes places old) where
    -- where nothing is pending, all sets are found
    pub run_last : IsDone old mid → IsComplete ranks M.has (meaning_of holds (plain_rules rules)) (rows_of (founds label_of classes))
    run_last done =
        all_found ranks M.has M.keeps (meaning_of holds (plain_rules rules)) label_of classes old mid sound (listed_at places) (cheapest holds ranks rules classes places kinds label_of sound.rising)
        (λ c low ks over. opened c low ks over.0 over.1) done

    module _ (c : Class V) (taken : IsTaken old mid c) (kept : AreKept mid) (classes' : List (Class V)) (places' : List (Vec Place H)) (is : classes' ≡ classes ++ c ∷ []) (many : length places' ≡ length places)
        (next : (n : ℕ) → n < length places → NextPlaces c.row (get_or (lists_of places) n []) (get_or (lists_of places') n [])) where
      pub run_sound : Sound M ranks rules classes' mid
      run_sound =
          subst (λ z. Sound M ranks rules z mid) (sym is)
          (sound_taken ranks M.has M.keeps (meaning_of holds (plain_rules rules)) label_of classes old mid sound (listed_at places) (cheapest holds ranks rules classes places kinds label_of sound.rising)
          (λ n low ks over. opened n low ks over.0 over.1) c taken kept)

      pub run_kinds : AreKinds ranks rules classes' places'
      run_kinds = kinds_more ranks M.has M.keeps (meaning_of holds (plain_rules rules)) label_of rules classes classes' c places places' kinds is many next

      pub run_rest : (s : Pending V) → IsBetter mid s → HasNewOffered M ranks rules classes' places' s → HasAllOffered M ranks rules classes' places' s
      run_rest s better new =
          let last : length classes' - 1 ≡ length classes = omega (arith, ap length is, length_push classes c) in
          all_opened ranks M.has M.keeps (meaning_of holds (plain_rules rules)) label_of rules classes classes' c places places' kinds is next mid s run_sound better
          (λ n low ks wide listed. opened_later ranks M.has M.keeps (meaning_of holds (plain_rules rules)) label_of classes old mid sound n ks taken.better (opened n low ks wide listed))
          (λ n low ks wide listed at. new n low ks (new_list classes' places' run_kinds n low ks wide listed (λ some. subst (Contains ks) (sym last) at)))

module _ {A V W G : Type 0} {label_of : V → Label} {holds : A → Label → Bool} (M : Meaning label_of holds W) (ranks : List ℕ) (rules : List (Vec (StaRule A) G)) (own : List (Rules A)) (most : ℕ) (known : Known V) where
  -- a search goes on where nothing was done
  pub begun : {old : Offers V} → IsUnderway M ranks rules own most known old → (P : Pending V → Type 0) → P old.pending → GoesOn M ranks rules own most known old old P
  begun under P h = record { under = under; better = λ q n m. m; offered = h }

  module _ (first : Offers V) (c : ℕ) (lists : List (List ℕ)) where
    -- the trees over new lists of constructors before this one are offered, and those over so many lists of its own
    abbrev pub OffersTo : ℕ → Pending V → Type 0
    OffersTo n s = HasNewBefore M ranks rules known.classes.items known.places.items c s × ((i : ℕ) → i < n → i < length lists → HasOffered M ranks rules known.classes.items c (get_or lists i []) s)

    pub offers_first : (s : Offers V) → GoesOn M ranks rules own most known first s (HasNewBefore M ranks rules known.classes.items known.places.items c) → GoesOn M ranks rules own most known first s (OffersTo 0)
    offers_first s goes = record { under = goes.under; better = goes.better; offered = (goes.offered, λ i low. absurd (omega (arith, low))) }

    pub offers_more : (old new : Offers V) (n : ℕ) (ks : List ℕ) → ks ≡ get_or lists n [] → GoesOn M ranks rules own most known first old (OffersTo n) → GoesOn M ranks rules own most known old new (HasOffered M ranks rules known.classes.items c ks) → GoesOn M ranks rules own most known first new (OffersTo (n + 1))
    offers_more old new n ks is before after = record {
      under = after.under;
      better = λ q m met. after.better q m (before.better q m met);
      offered = (
        (λ d low xs listed. later d xs (before.offered.0 d low xs listed)),
        (λ i low inside. elim (cases_lt i n) [
          | inl below ↦ later c (get_or lists i []) (before.offered.1 i below inside)
          | inr past ↦
              let same : i ≡ n = omega (arith, past, low) in
              subst (λ k. HasOffered M ranks rules known.classes.items c k new.pending) (is ∙ ap (λ k. get_or lists k []) (sym same)) after.offered
        ]),
      );
    }
      where
        later : (d : ℕ) (xs : List ℕ) → HasOffered M ranks rules known.classes.items d xs old.pending → HasOffered M ranks rules known.classes.items d xs new.pending
        later d xs h = opened_later ranks M.has M.keeps (meaning_of holds (plain_rules rules)) label_of known.classes.items old.pending new.pending before.under.sound d xs after.better h

    pub offers_last : (s : Offers V) (n : ℕ) → length lists ≤ n → ((ks : List ℕ) → IsNewList (firsts_of (get_or (lists_of known.places.items) c [])) (length known.classes.items) ks → Contains lists ks) → GoesOn M ranks rules own most known first s (OffersTo n) → GoesOn M ranks rules own most known first s (HasNewBefore M ranks rules known.classes.items known.places.items (c + 1))
    offers_last s n all there goes = record {
      under = goes.under;
      better = goes.better;
      offered = λ d low ks listed. elim (cases_lt d c) [
        | inl below ↦ goes.offered.0 d below ks listed
        | inr past ↦
            let same : d ≡ c = omega (arith, past, low) in
            let (i, i_low, is) = there ks (subst (λ k. IsNewList (firsts_of (get_or (lists_of known.places.items) k [])) (length known.classes.items) ks) same listed) in
            subst (λ k. HasOffered M ranks rules known.classes.items k ks s.pending) (sym same)
            (subst (λ k. HasOffered M ranks rules known.classes.items c k s.pending) (same_default lists i [] ks i_low ∙ is) (goes.offered.1 i (omega (arith, i_low, all)) i_low))
      ];
    }

-- a class that was taken, under another name
pub taken_as : {V : Type 0} (old mid : Pending V) (c d : Class V) → d ≡ c → IsTaken old mid c → IsTaken old mid d
taken_as old mid c d same taken = subst (IsTaken old mid) (sym same) taken

-- what is known of the rules of each constructor with one more class
pub split_again : {A V W : Type 0} {label_of : V → Label} {holds : A → Label → Bool} (M : Meaning label_of holds W) (ranks : List ℕ) (own : List (Rules A)) (classes classes' : List (Class V)) (splits splits' : List (Splits V)) (c d : Class V) → d ≡ c → classes' ≡ classes ++ d ∷ []
    → ((rows : List (List Bool)) → AreSplit M ranks own rows splits → AreSplit M ranks own (rows ++ c.row ∷ []) splits') → AreSplit M ranks own (class_rows classes) splits → AreSplit M ranks own (class_rows classes') splits'
split_again M ranks own classes classes' splits splits' c d same is more h =
    subst (λ z. AreSplit M ranks own z splits') (sym (ap class_rows is ∙ map-append (λ z. z.row) classes (d ∷ [])))
    (subst (λ z. AreSplit M ranks own (class_rows classes ++ z.row ∷ []) splits') (sym same) (more (class_rows classes) h))
