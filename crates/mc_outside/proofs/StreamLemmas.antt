-- IsReadAt and writes that follow one another, and the front of a buffer that was read into.
use Rattle.std.proofs.Common.{◌≡◌, ◌+◌, ◌≤◌, ◌++◌, ◌∙◌, ℕ, List, Option, Some, None, length, take, ap, sym, arith, append_assoc}
use Rattle.std.proofs.lemmas.List.{length-append, length-take-le, take-append-le}
use Rattle.std.proofs.Math.Seq.{take-append-add}
use Rattle.std.specs.Io.KnownBytes.{Appends, Consumes}
use borrow.Rule.Slice.PartMut.{put_mid, post_of}

pub appends_more : (old mid new : Option (List ℕ)) (xs ys : List ℕ) → Appends old mid xs → Appends mid new ys → Appends old new (xs ++ ys)
appends_more None mid new xs ys p q = tt
appends_more (Some o) None new xs ys p q = absurd p
appends_more (Some o) (Some m) None xs ys p q = absurd q
appends_more (Some o) (Some m) (Some n) xs ys p q = q ∙ ap (λ l. l ++ ys) p ∙ append_assoc o xs ys

pub consumes_more : (old mid new : Option (List ℕ)) (xs ys : List ℕ) → Consumes old mid xs → Consumes mid new ys → Consumes old new (xs ++ ys)
consumes_more None mid new xs ys p q = tt
consumes_more (Some o) None new xs ys p q = absurd p
consumes_more (Some o) (Some m) None xs ys p q = absurd q
consumes_more (Some o) (Some m) (Some n) xs ys p q = p ∙ ap (λ l. xs ++ l) q ∙ sym (append_assoc xs ys n)

-- the front of a buffer after n bytes were read into it from place a on
pub front_read : (a k n : ℕ) (xs ys : List ℕ) → a ≤ length xs → n ≤ length ys → take (a + n) (put_mid a k xs ys) ≡ take a xs ++ take n ys
front_read a k n xs ys within few =
    ap (λ i. take (i + n) (put_mid a k xs ys)) (sym (length-take-le a xs within))
    ∙ take-append-add (take a xs) (ys ++ post_of a k xs) n
    ∙ ap (λ l. take a xs ++ l) (take-append-le n ys (post_of a k xs) few)

pub front_fits : (a k n : ℕ) (xs ys : List ℕ) → a ≤ length xs → n ≤ length ys → a + n ≤ length (put_mid a k xs ys)
front_fits a k n xs ys within few =
    omega (arith, length-append (take a xs) (ys ++ post_of a k xs), length-append ys (post_of a k xs), length-take-le a xs within)
