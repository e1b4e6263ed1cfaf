-- The term of a value, by the form of its domain's terms. Assumes nothing.
use Prim.Native.Nat.{ℕ}
use mathlib.Core.Path.{◌≡◌, refl, sym, ap, ◌∙◌}
use mathlib.Core.Bool.{Bool, true, false}
use mathlib.Core.List.{[], ◌∷◌, ◌++◌, append_assoc}
use borrow.Author.Tests.{eq-eqb, ne_eqb}
use Rattle.text.specs.Text.{Bytes, same}
use Rattle.text.specs.Word.{bytes}
use Rattle.filtering.specs.Values.{simple, bracketed}
use Rattle.filtering.specs.bridge.Terms.{form_of, term_of}

-- ---- the form of a domain

module _ (d : Bytes) where
  module _ (a : Bool) (i : a ≡ same d (bytes "PlainString")) where
    pub form-plain : a ≡ true → 0 ≡ form_of d
    unfolding form_of
    form-plain h = rw (sym i ∙ h)

    module _ (ā : a ≡ false) (b : Bool) (j : b ≡ same d (bytes "LanguageTaggedString")) where
      pub form-tagged : b ≡ true → 1 ≡ form_of d
      unfolding form_of
      form-tagged h = rw (sym i ∙ ā, sym j ∙ h)

      module _ (b̄ : b ≡ false) (c : Bool) (k : c ≡ same d (bytes "Iri")) where
        pub form-iri : c ≡ true → 2 ≡ form_of d
        unfolding form_of
        form-iri h = rw (sym i ∙ ā, sym j ∙ b̄, sym k ∙ h)

        module _ (c̄ : c ≡ false) (e : Bool) (l : e ≡ same d (bytes "Null")) where
          pub form-null : e ≡ true → 3 ≡ form_of d
          unfolding form_of
          form-null h = rw (sym i ∙ ā, sym j ∙ b̄, sym k ∙ c̄, sym l ∙ h)

          module _ (ē : e ≡ false) (f : Bool) (m : f ≡ same d (bytes "Tuple")) where
            pub form-tuple : f ≡ true → 4 ≡ form_of d
            unfolding form_of
            form-tuple h = rw (sym i ∙ ā, sym j ∙ b̄, sym k ∙ c̄, sym l ∙ ē, sym m ∙ h)

            module _ (f̄ : f ≡ false) (g : Bool) (n : g ≡ same d (bytes "Map")) where
              pub form-map : g ≡ true → 4 ≡ form_of d
              unfolding form_of
              form-map h = rw (sym i ∙ ā, sym j ∙ b̄, sym k ∙ c̄, sym l ∙ ē, sym m ∙ f̄, sym n ∙ h)

              module _ (ḡ : g ≡ false) (o : Bool) (q : o ≡ same d (bytes "Other")) where
                pub form-other : o ≡ true → 5 ≡ form_of d
                unfolding form_of
                form-other h = rw (sym i ∙ ā, sym j ∙ b̄, sym k ∙ c̄, sym l ∙ ē, sym m ∙ f̄, sym n ∙ ḡ, sym q ∙ h)

                pub form-typed : o ≡ false → 6 ≡ form_of d
                unfolding form_of
                form-typed h = rw (sym i ∙ ā, sym j ∙ b̄, sym k ∙ c̄, sym l ∙ ē, sym m ∙ f̄, sym n ∙ ḡ, sym q ∙ h)

-- ---- the term of a form

module _ (f : ℕ) (l x : Bytes) where
  pub named_put : f ≡ 2 → bracketed l ≡ term_of f l x
  unfolding term_of
  named_put h = rw (eq-eqb f 2 h) refl

  module _ (a : f ≡ 2 → ⊥) where
    pub unbound-put : f ≡ 3 → 45 ∷ [] ≡ term_of f l x
    unfolding term_of
    unbound-put h = rw (ne_eqb f 2 a, eq-eqb f 3 h) refl

    module _ (b : f ≡ 3 → ⊥) where
      pub none-put : f ≡ 4 → [] ≡ term_of f l x
      unfolding term_of
      none-put h = rw (ne_eqb f 2 a, ne_eqb f 3 b, eq-eqb f 4 h) refl

      module _ (c : f ≡ 4 → ⊥) where
        pub simple-put : f ≡ 0 → simple l ≡ term_of f l x
        unfolding term_of
        simple-put h = rw (ne_eqb f 2 a, ne_eqb f 3 b, ne_eqb f 4 c, eq-eqb f 0 h) refl

        module _ (d : f ≡ 0 → ⊥) where
          extended : (m : Bytes) → simple l ++ m ≡ 34 ∷ (l ++ (34 ∷ m))
          extended m = ap (λ (y : Bytes). 34 ∷ y) (append_assoc l (34 ∷ []) m)

          pub tagged-put : f ≡ 1 → (simple l ++ (64 ∷ [])) ++ x ≡ term_of f l x
          unfolding term_of
          tagged-put h =
              rw (ne_eqb f 2 a, ne_eqb f 3 b, ne_eqb f 4 c, ne_eqb f 0 d, eq-eqb f 1 h)
              (append_assoc (simple l) (64 ∷ []) x ∙ extended (64 ∷ x))

          pub typed-put : (f ≡ 1 → ⊥) → (simple l ++ (94 ∷ 94 ∷ [])) ++ x ≡ term_of f l x
          unfolding term_of
          typed-put h =
              rw (ne_eqb f 2 a, ne_eqb f 3 b, ne_eqb f 4 c, ne_eqb f 0 d, ne_eqb f 1 h)
              (append_assoc (simple l) (94 ∷ 94 ∷ []) x ∙ extended (94 ∷ 94 ∷ x))
