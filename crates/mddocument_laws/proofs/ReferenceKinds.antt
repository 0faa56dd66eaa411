-- What bytes begin with, where a character reference is.
use Rattle.mddocument_laws.proofs.Prelude.{◌≡◌, ℕ, List, Bool, true, false, cond, drop, Some, None, refl, sym, ap, ◌∙◌, subst, take, and_parts, false≢true, drop-drop, prefix_len, is_some, ◌&&◌, has_byte_at, is_ampersand, passes, Kind, body_at, decimal, hexadecimal, is_number_sign, is_semicolon, is_value, is_value_byte, is_x, marks, named, number_at, reference, reference_at, value_at, BeginsWithReference, ReferencesAreWritten}
use Rattle.markdown_base.proofs.Facts.Lists.{get-dropped}
use Rattle.mddocument.proofs.ReferenceBytes.{some-cond}

-- a value, with its semicolon, and how many bytes it has
record IsValued (kind : Kind) (text : List ℕ) : Type 0 where
  count : ℕ
  is : value_at kind text ≡ Some (reference kind count)
  value : is_value kind (take count text) ≡ true
  ends : has_byte_at text count is_semicolon ≡ true

valued : (kind : Kind) (text : List ℕ) → is_some (value_at kind text) ≡ true → IsValued kind text
valued kind text h =
    let n = prefix_len (is_value_byte kind) text in
    let there = some-cond (is_value kind (take n text) && has_byte_at text n is_semicolon) (reference kind n) h in
    let both = and_parts (is_value kind (take n text)) (has_byte_at text n is_semicolon) there in
    record { count = n; is = ap (λ b. cond b (Some (reference kind n)) None) there; value = both.0; ends = both.1 }

module _ (bytes : List ℕ) (first : has_byte_at bytes 0 is_ampersand ≡ true) where
  -- behind the marks of its kind
  begins : (kind : Kind) → (text : List ℕ) → text ≡ drop (marks kind) bytes → (v : IsValued kind text) → reference_at bytes ≡ Some (reference kind v.count) → BeginsWithReference bytes
  begins kind text at v is = record {
    kind = kind;
    count = v.count;
    is = is;
    first = first;
    value = subst (λ l. is_value kind (take v.count l) ≡ true) at v.value;
    ends = sym (ap (passes is_semicolon) (get-dropped (marks kind) bytes v.count)) ∙ subst (λ l. has_byte_at l v.count is_semicolon ≡ true) at v.ends;
  }

  in-body : reference_at bytes ≡ body_at (drop 1 bytes)
  in-body = ap (λ b. cond b (body_at (drop 1 bytes)) None) first

  of-number : body_at (drop 1 bytes) ≡ number_at (drop 1 (drop 1 bytes)) → is_some (number_at (drop 1 (drop 1 bytes))) ≡ true → BeginsWithReference bytes
  of-number is h = by (has_byte_at (drop 1 (drop 1 bytes)) 0 is_x) refl h
    where
      rest : List ℕ
      rest = drop 1 (drop 1 bytes)

      two : rest ≡ drop 2 bytes
      two = drop-drop 1 1 bytes

      three : drop 1 rest ≡ drop 3 bytes
      three = ap (drop 1) two ∙ drop-drop 1 2 bytes

      by : (x : Bool) → has_byte_at rest 0 is_x ≡ x → is_some (cond x (value_at hexadecimal (drop 1 rest)) (value_at decimal rest)) ≡ true → BeginsWithReference bytes
      by true e k =
          let v = valued hexadecimal (drop 1 rest) k in
          begins hexadecimal (drop 1 rest) three v (in-body ∙ is ∙ ap (λ c. cond c (value_at hexadecimal (drop 1 rest)) (value_at decimal rest)) e ∙ v.is)
      by false e k =
          let v = valued decimal rest k in
          begins decimal rest two v (in-body ∙ is ∙ ap (λ c. cond c (value_at hexadecimal (drop 1 rest)) (value_at decimal rest)) e ∙ v.is)

  of-body : is_some (body_at (drop 1 bytes)) ≡ true → BeginsWithReference bytes
  of-body h = by (has_byte_at (drop 1 bytes) 0 is_number_sign) refl h
    where
      rest : List ℕ
      rest = drop 1 bytes

      by : (x : Bool) → has_byte_at rest 0 is_number_sign ≡ x → is_some (cond x (number_at (drop 1 rest)) (value_at named rest)) ≡ true → BeginsWithReference bytes
      by true e k = of-number (ap (λ c. cond c (number_at (drop 1 rest)) (value_at named rest)) e) k
      by false e k =
          let v = valued named rest k in
          begins named rest refl v (in-body ∙ ap (λ c. cond c (number_at (drop 1 rest)) (value_at named rest)) e ∙ v.is)

pub references-are-written : ReferencesAreWritten
references-are-written bytes h = by (has_byte_at bytes 0 is_ampersand) refl h
  where
    by : (x : Bool) → has_byte_at bytes 0 is_ampersand ≡ x → is_some (cond x (body_at (drop 1 bytes)) None) ≡ true → BeginsWithReference bytes
    by true e k = of-body bytes e k
    by false e k = absurd (false≢true k)
