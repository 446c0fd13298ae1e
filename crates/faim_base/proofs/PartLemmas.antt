-- What a text is after its parts are written one after the other.
use Rattle.std.proofs.Common.{◌≡◌, ℕ, ◌+◌, ◌≤◌, List, ◌++◌, length, drop, append_assoc, append-nil, length-append, refl, sym, ◌∙◌, arith}
use Rattle.std.proofs.lemmas.List.{take_at, drop_at, drop_all, drop-drop}
use borrow.Rule.Slice.PartMut.{put_mid}

-- the part after a front that is written
pub put_next : (text front part : List ℕ) (at n next : ℕ) → length front ≡ at → at + n ≡ next → put_mid at n (front ++ drop at text) part ≡ front ++ part ++ drop next text
put_next text front part at n next e f =
    rw (take_at front (drop at text) at e, drop_at front (drop at text) at e, drop-drop n at text, f) (sym (append_assoc front part (drop next text)))

-- the last part
pub put_last : (text front part : List ℕ) (at n : ℕ) → length front ≡ at → length text ≤ at + n → put_mid at n (front ++ drop at text) part ≡ front ++ part
put_last text front part at n e h =
    put_next text front part at n (at + n) e refl ∙ rw (drop_all (at + n) text h) (append-nil (front ++ part))

pub length_front : (front part : List ℕ) (at n next : ℕ) → length front ≡ at → length part ≡ n → at + n ≡ next → length (front ++ part) ≡ next
length_front front part at n next e f g = omega (arith, length-append front part)

pub three_parts : (text a b c : List ℕ) (i n j k : ℕ) → length a ≡ i → length b ≡ n → i + n ≡ j → length text ≡ j + k → put_mid j k (put_mid i n (a ++ drop i text) b) c ≡ a ++ b ++ c
three_parts text a b c i n j k e f g h =
    rw (put_next text a b i n j e g) (put_last text (a ++ b) c j k (length_front a b i n j e f g) (omega arith))

pub four_parts : (text a b c d : List ℕ) (i n j k m o : ℕ) → length a ≡ i → length b ≡ n → length c ≡ k → i + n ≡ j → j + k ≡ m → length text ≡ m + o → put_mid m o (put_mid j k (put_mid i n (a ++ drop i text) b) c) d ≡ a ++ b ++ c ++ d
four_parts text a b c d i n j k m o e f g h l p =
    let front = length_front a b i n j e f h in
    rw (put_next text a b i n j e h, put_next text (a ++ b) c j k m front l) (put_last text (a ++ b ++ c) d m o (length_front (a ++ b) c j k m front g l) (omega arith))

pub five_parts : (text a b c d e : List ℕ) (i n j k m o p q : ℕ) → length a ≡ i → length b ≡ n → length c ≡ k → length d ≡ o → i + n ≡ j → j + k ≡ m → m + o ≡ p → length text ≡ p + q → put_mid p q (put_mid m o (put_mid j k (put_mid i n (a ++ drop i text) b) c) d) e ≡ a ++ b ++ c ++ d ++ e
five_parts text a b c d e i n j k m o p q la lb lc ld to_j to_m to_p whole =
    let second = length_front a b i n j la lb to_j in
    let third = length_front (a ++ b) c j k m second lc to_m in
    rw (put_next text a b i n j la to_j, put_next text (a ++ b) c j k m second to_m, put_next text (a ++ b ++ c) d m o p third to_p)
    (put_last text (a ++ b ++ c ++ d) e p q (length_front (a ++ b ++ c) d m o p third ld to_p) (omega arith))
