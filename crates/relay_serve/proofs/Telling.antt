-- What a house tells more, one part after the other
use Rattle.std.proofs.Common.{◌≡◌, List, [], ◌∷◌, ◌++◌, append_assoc, append-nil, Option, None, Some, refl, sym, ap, subst, ◌∙◌}
use Rattle.std.specs.List.{AllZip}
use Rattle.relay_outside.specs.Doors.{with_one}
use Rattle.relay_serve.specs.Settling.{TellsMore, ToldMore}

module _ {A X : Type 0} (R : A → X → Type 0) where
  zip_append : (items others : List A) (xs ys : List X) → AllZip R items xs → AllZip R others ys → AllZip R (items ++ others) (xs ++ ys)
  zip_append [] others [] ys a b = b
  zip_append [] others (x ∷ xs) ys a b = absurd a
  zip_append (i ∷ items) others [] ys a b = absurd a
  zip_append (i ∷ items) others (x ∷ xs) ys a b = (a.0, zip_append items others xs ys a.1 b)

  -- none more yet
  pub none_more : (told : Option (List X)) → TellsMore R [] told told
  none_more told = λ list e. record { first = list; before_is = e; more = []; now_is = sym (append-nil list); each = tt }

  one_more_of : (item : A) (before now : Option (List X)) (o : Option X) → now ≡ with_one before o → ((x : X) → o ≡ Some x → R item x)
      → (list : List X) → now ≡ Some list → ToldMore R (item ∷ []) before list
  one_more_of item None now o e r list f = absurd (let g : None ≡ Some list = sym e ∙ f in cc)
  one_more_of item (Some first) now None e r list f = absurd (let g : None ≡ Some list = sym e ∙ f in cc)
  one_more_of item (Some first) now (Some x) e r list f =
      let is : list ≡ first ++ x ∷ [] = let g : Some list ≡ Some (first ++ x ∷ []) = sym f ∙ e in cc in
      record { first = first; before_is = refl; more = x ∷ []; now_is = is; each = (r x refl, tt) }

  -- one more
  pub one_more : (item : A) (before now : Option (List X)) (o : Option X) → now ≡ with_one before o → ((x : X) → o ≡ Some x → R item x)
      → TellsMore R (item ∷ []) before now
  one_more item before now o e r = λ list f. one_more_of item before now o e r list f

  -- these, and then the others
  pub more_then : (items others : List A) (before mid now : Option (List X)) → TellsMore R items before mid → TellsMore R others mid now
      → TellsMore R (items ++ others) before now
  more_then items others before mid now m n = λ list e.
      let s = n list e in
      let f = m s.first s.before_is in
      record {
        first = f.first;
        before_is = f.before_is;
        more = f.more ++ s.more;
        now_is = s.now_is ∙ (ap (λ (l : List X). l ++ s.more) f.now_is ∙ append_assoc f.first f.more s.more);
        each = zip_append items others f.more s.more f.each s.each;
      }

  module _ (S : A → X → Type 0) where
    zip_weaker : ((item : A) (x : X) → R item x → S item x) → (items : List A) (xs : List X) → AllZip R items xs → AllZip S items xs
    zip_weaker w [] [] a = tt
    zip_weaker w [] (x ∷ xs) a = absurd a
    zip_weaker w (i ∷ items) [] a = absurd a
    zip_weaker w (i ∷ items) (x ∷ xs) a = (w i x a.0, zip_weaker w items xs a.1)

    -- the same of what is weaker
    pub more_weaker : ((item : A) (x : X) → R item x → S item x) → (items : List A) (before now : Option (List X)) → TellsMore R items before now
        → TellsMore S items before now
    more_weaker w items before now m = λ list e.
        let r = m list e in
        record { first = r.first; before_is = r.before_is; more = r.more; now_is = r.now_is; each = zip_weaker w items r.more r.each }

  -- by lists that are the same
  pub more_same : (items others : List A) (before mid now : Option (List X)) → items ≡ others → before ≡ mid → TellsMore R items before now → TellsMore R others mid now
  more_same items others before mid now e f m =
      subst (λ (l : List A). TellsMore R l mid now) e (subst (λ (o : Option (List X)). TellsMore R items o now) f m)
