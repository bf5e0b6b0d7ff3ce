-- Fields made one by one of whole numbers, truth values and texts.
use Rattle.std.proofs.Common.{◌≡◌, ℕ, ℤ, suc, ◌+◌, ◌<◌, ◌≤◌, Bool, List, [], ◌∷◌, ◌++◌, map, length, drop, get_or, sym, ap, ◌∙◌, subst, append_assoc, append-nil, arith}
use Rattle.std.specs.Prelude.{remove}
use Rattle.std.proofs.lemmas.List.{drop_more, at_drop_all, map-append}
use Rattle.model_tree.specs.Label.{Field, whole, truth, text}
use Rattle.model_tree.specs.Signature.{Sort, wholes, truths, texts}
use Rattle.fast_tree.specs.declared.signature.Sort as code
use Rattle.fast_tree.specs.declared.signature.Sort.TheVariants as sorts
use Rattle.fast_tree.specs.declared.label.Value.{Value}
use Rattle.fast_tree.specs.declared.label.Value.TheVariants as values
use Rattle.fast_tree.specs.Entries.{field_of}
use Rattle.fast_tree.specs.Signatures.{plain_sort}
use Rattle.record_label.specs.Rows.{count_of, merged}

-- what is left of them is as many as the sorts that are left ask for, and gives the fields that are missing
pub record AreLeft (left : List Sort) (ns : List ℤ) (bs : List Bool) (ts : List (List ℕ)) (made all : List Field) : Type 0 where
  pub numbers : length ns ≡ count_of wholes left
  pub truths : length bs ≡ count_of truths left
  pub texts : length ts ≡ count_of texts left
  pub fields : made ++ merged left ns bs ts ≡ all

further : (made more : List Field) (f g : Field) (all : List Field) → f ≡ g → made ++ f ∷ more ≡ all → (made ++ g ∷ []) ++ more ≡ all
further made more f g all same e = append_assoc made (g ∷ []) more ∙ ap (λ h. made ++ h ∷ more) (sym same) ∙ e

module _ (left : List Sort) (made all : List Field) where
  number_taken : (ns : List ℤ) (bs : List Bool) (ts : List (List ℕ)) → AreLeft (wholes ∷ left) ns bs ts made all → (n : ℤ) → n ≡ get_or ns 0 n → AreLeft left (remove ns 0) bs ts (made ++ whole n ∷ []) all
  number_taken [] bs ts h n is = let none : 0 ≡ suc (count_of wholes left) = h.numbers in absurd cc
  number_taken (m ∷ ns) bs ts h n is = record { numbers = (let more : suc (length ns) ≡ suc (count_of wholes left) = h.numbers in omega arith); truths = h.truths; texts = h.texts; fields = further made (merged left ns bs ts) (whole m) (whole n) all (ap whole (sym is)) h.fields }

  truth_taken : (ns : List ℤ) (bs : List Bool) (ts : List (List ℕ)) → AreLeft (truths ∷ left) ns bs ts made all → (b : Bool) → b ≡ get_or bs 0 b → AreLeft left ns (remove bs 0) ts (made ++ truth b ∷ []) all
  truth_taken ns [] ts h b is = let none : 0 ≡ suc (count_of truths left) = h.truths in absurd cc
  truth_taken ns (c ∷ bs) ts h b is = record { numbers = h.numbers; truths = (let more : suc (length bs) ≡ suc (count_of truths left) = h.truths in omega arith); texts = h.texts; fields = further made (merged left ns bs ts) (truth c) (truth b) all (ap truth (sym is)) h.fields }

  text_taken : (ns : List ℤ) (bs : List Bool) (ts : List (List ℕ)) → AreLeft (texts ∷ left) ns bs ts made all → (t : List ℕ) → t ≡ get_or ts 0 t → AreLeft left ns bs (remove ts 0) (made ++ text t ∷ []) all
  text_taken ns bs [] h t is = let none : 0 ≡ suc (count_of texts left) = h.texts in absurd cc
  text_taken ns bs (u ∷ ts) h t is = record { numbers = h.numbers; truths = h.truths; texts = (let more : suc (length ts) ≡ suc (count_of texts left) = h.texts in omega arith); fields = further made (merged left ns bs ts) (text u) (text t) all (ap text (sym is)) h.fields }

module _ (left : List Sort) (made all : List Field) where
  moved : (ns ms : List ℤ) (bs cs : List Bool) (ts us : List (List ℕ)) → ms ≡ ns → cs ≡ bs → us ≡ ts → AreLeft left ns bs ts made all → AreLeft left ms cs us made all
  moved ns ms bs cs ts us n b t h = subst (λ ks. AreLeft left ks cs us made all) (sym n) (subst (λ ks. AreLeft left ns ks us made all) (sym b) (subst (λ ks. AreLeft left ns bs ks made all) (sym t) h))

module _ (ss : List code.Sort) (i : ℕ) (ns : List ℤ) (bs : List Bool) (ts : List (List ℕ)) (vs : List Value) (all : List Field) where
  -- so it is when so many sorts are done
  abbrev pub AreLeftAt : Type 0
  AreLeftAt = AreLeft (map plain_sort (drop i ss)) ns bs ts (map field_of vs) all

  pub all_made : AreLeftAt → length ss ≤ i → map field_of vs ≡ all
  all_made h end = sym (append-nil (map field_of vs)) ∙ ap (λ left. map field_of vs ++ merged (map plain_sort left) ns bs ts) (sym (at_drop_all (λ left. left) ss i end)) ∙ h.fields

  -- a value is put behind those that are made
  put : (left : List Sort) (ms : List ℤ) (cs : List Bool) (us : List (List ℕ)) (f : Field) → AreLeft left ms cs us (map field_of vs ++ f ∷ []) all → (v : Value) (new : List Value) → field_of v ≡ f → new ≡ vs ++ v ∷ [] → AreLeft left ms cs us (map field_of new) all
  put left ms cs us f h v new same pushed = subst (λ made. AreLeft left ms cs us made all) (sym (ap (map field_of) pushed ∙ map-append field_of vs (v ∷ []) ∙ ap (λ g. map field_of vs ++ g ∷ []) same)) h

  module _ (low : i < length ss) (h : AreLeftAt) (s : code.Sort) (is : get_or ss i sorts.Int ≡ s) where
    next : AreLeft (plain_sort s ∷ map plain_sort (drop (i + 1) ss)) ns bs ts (map field_of vs) all
    next = subst (λ left. AreLeft left ns bs ts (map field_of vs) all) (ap (map plain_sort) (drop_more ss i sorts.Int low) ∙ ap (λ t. plain_sort t ∷ map plain_sort (drop (i + 1) ss)) is) h

  module _ (low : i < length ss) (h : AreLeftAt) where
    pub has_number : get_or ss i sorts.Int ≡ sorts.Int → 0 < length ns
    has_number is = let more : length ns ≡ suc (count_of wholes (map plain_sort (drop (i + 1) ss))) = (next low h sorts.Int is).numbers in omega arith

    pub has_truth : get_or ss i sorts.Int ≡ sorts.Bool → 0 < length bs
    has_truth is = let more : length bs ≡ suc (count_of truths (map plain_sort (drop (i + 1) ss))) = (next low h sorts.Bool is).truths in omega arith

    pub has_text : get_or ss i sorts.Int ≡ sorts.Text → 0 < length ts
    has_text is = let more : length ts ≡ suc (count_of texts (map plain_sort (drop (i + 1) ss))) = (next low h sorts.Text is).texts in omega arith

    module _ (v : Value) (new : List Value) (pushed : new ≡ vs ++ v ∷ []) (ms : List ℤ) (cs : List Bool) (us : List (List ℕ)) where
      abbrev IsLeftAfter : Type 0
      IsLeftAfter = AreLeft (map plain_sort (drop (i + 1) ss)) ms cs us (map field_of new) all

      behind : (ks : List ℤ) (ds : List Bool) (ws : List (List ℕ)) (f : Field) → ms ≡ ks → cs ≡ ds → us ≡ ws → field_of v ≡ f → AreLeft (map plain_sort (drop (i + 1) ss)) ks ds ws (map field_of vs ++ f ∷ []) all → IsLeftAfter
      behind ks ds ws f n b t same h = moved (map plain_sort (drop (i + 1) ss)) (map field_of new) all ks ms ds cs ws us n b t (put (map plain_sort (drop (i + 1) ss)) ks ds ws f h v new same pushed)

      pub with_number : get_or ss i sorts.Int ≡ sorts.Int → (n : ℤ) → n ≡ get_or ns 0 n → v ≡ values.Int n → ms ≡ remove ns 0 → cs ≡ bs → us ≡ ts → IsLeftAfter
      with_number is n first same taken b t = behind (remove ns 0) bs ts (whole n) taken b t (ap field_of same) (number_taken (map plain_sort (drop (i + 1) ss)) (map field_of vs) all ns bs ts (next low h sorts.Int is) n first)

      pub with_truth : get_or ss i sorts.Int ≡ sorts.Bool → (b : Bool) → b ≡ get_or bs 0 b → v ≡ values.Bool b → ms ≡ ns → cs ≡ remove bs 0 → us ≡ ts → IsLeftAfter
      with_truth is b first same n taken t = behind ns (remove bs 0) ts (truth b) n taken t (ap field_of same) (truth_taken (map plain_sort (drop (i + 1) ss)) (map field_of vs) all ns bs ts (next low h sorts.Bool is) b first)

      pub with_text : get_or ss i sorts.Int ≡ sorts.Text → (t : List ℕ) → t ≡ get_or ts 0 t → v ≡ values.Text t → ms ≡ ns → cs ≡ bs → us ≡ remove ts 0 → IsLeftAfter
      with_text is t first same n b taken = behind ns bs (remove ts 0) (text t) n b taken (ap field_of same) (text_taken (map plain_sort (drop (i + 1) ss)) (map field_of vs) all ns bs ts (next low h sorts.Text is) t first)
