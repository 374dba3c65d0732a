-- What is written piece by piece, and item by item.
use Rattle.std.proofs.Common.{Result, Ok, Err, OnOk, ◌≡◌, ◌∙◌, ℕ, ◌+◌, ◌<◌, ◌≤◌, List, [], ◌∷◌, ◌++◌, length, take, get_or, sym, ap, subst, append_assoc}
use Rattle.std.specs.List.{flat_map}
use Rattle.std.proofs.lemmas.List.{flat_map_more, take_all, take_more}

-- some bytes stand behind others, and more behind these
grow : (o a b p q : List ℕ) → a ≡ o ++ p → b ≡ a ++ q → b ≡ o ++ (p ++ q)
grow o a b p q i j = j ∙ (ap (λ t. t ++ q) i ∙ append_assoc o p q)

-- pieces one behind another, the last of them by a call that may fail
pub two : {X E : Type 0} (r : Result X E) (o a b p q : List ℕ) → a ≡ o ++ p → OnOk r (b ≡ a ++ q) → OnOk r (b ≡ o ++ (p ++ q))
two (Ok x) o a b p q i j = grow o a b p q i j
two (Err x) o a b p q i j = tt

pub three : {X E : Type 0} (r : Result X E) (o a b c p q s : List ℕ) → a ≡ o ++ p → b ≡ a ++ q → OnOk r (c ≡ b ++ s) → OnOk r (c ≡ o ++ (p ++ (q ++ s)))
three r o a b c p q s i j k = two r o a c p (q ++ s) i (two r a b c q s j k)

pub four : {X E : Type 0} (r : Result X E) (o a b c d p q s t : List ℕ) → a ≡ o ++ p → b ≡ a ++ q → c ≡ b ++ s → OnOk r (d ≡ c ++ t) → OnOk r (d ≡ o ++ (p ++ (q ++ (s ++ t))))
four r o a b c d p q s t i j k l = two r o a d p (q ++ (s ++ t)) i (three r a b c d q s t j k l)

pub five : {X E : Type 0} (r : Result X E) (o a b c d e p q s t u : List ℕ) → a ≡ o ++ p → b ≡ a ++ q → c ≡ b ++ s → d ≡ c ++ t → OnOk r (e ≡ d ++ u)
    → OnOk r (e ≡ o ++ (p ++ (q ++ (s ++ (t ++ u)))))
five r o a b c d e p q s t u i j k l m = two r o a e p (q ++ (s ++ (t ++ u))) i (four r a b c d e q s t u j k l m)

pub six : {X E : Type 0} (r : Result X E) (o a b c d e f p q s t u v : List ℕ) → a ≡ o ++ p → b ≡ a ++ q → c ≡ b ++ s → d ≡ c ++ t → e ≡ d ++ u → OnOk r (f ≡ e ++ v)
    → OnOk r (f ≡ o ++ (p ++ (q ++ (s ++ (t ++ (u ++ v))))))
six r o a b c d e f p q s t u v i j k l m n = two r o a f p (q ++ (s ++ (t ++ (u ++ v)))) i (five r a b c d e f q s t u v j k l m n)

-- what was written, by another name
pub wrote : {X E : Type 0} (r : Result X E) (o a text full : List ℕ) → OnOk r (a ≡ o ++ text) → text ≡ full → OnOk r (a ≡ o ++ full)
wrote r o a text full h e = subst (λ t. OnOk r (a ≡ o ++ t)) e h

-- a line that begins so and has these pieces behind that
pub line_one : (first line o a p : List ℕ) → line ≡ a → o ≡ first → a ≡ o ++ p → line ≡ first ++ p
line_one first line o a p is start i = is ∙ i ∙ ap (λ l. l ++ p) start

pub line_two : (first line o a b p q : List ℕ) → line ≡ b → o ≡ first → a ≡ o ++ p → b ≡ a ++ q → line ≡ first ++ (p ++ q)
line_two first line o a b p q is start i j = line_one first line o b (p ++ q) is start (grow o a b p q i j)

pub line_three : (first line o a b c p q s : List ℕ) → line ≡ c → o ≡ first → a ≡ o ++ p → b ≡ a ++ q → c ≡ b ++ s → line ≡ first ++ (p ++ (q ++ s))
line_three first line o a b c p q s is start i j k = line_two first line o a c p (q ++ s) is start i (grow a b c q s j k)

pub line_four : (first line o a b c d p q s t : List ℕ) → line ≡ d → o ≡ first → a ≡ o ++ p → b ≡ a ++ q → c ≡ b ++ s → d ≡ c ++ t → line ≡ first ++ (p ++ (q ++ (s ++ t)))
line_four first line o a b c d p q s t is start i j k l = line_three first line o a b d p q (s ++ t) is start i j (grow b c d s t k l)

pub line_five : (first line o a b c d e p q s t u : List ℕ) → line ≡ e → o ≡ first → a ≡ o ++ p → b ≡ a ++ q → c ≡ b ++ s → d ≡ c ++ t → e ≡ d ++ u
    → line ≡ first ++ (p ++ (q ++ (s ++ (t ++ u))))
line_five first line o a b c d e p q s t u is start i j k l m = line_four first line o a b c e p q s (t ++ u) is start i j k (grow c d e t u l m)

-- one item more, behind those before it
pub one_more : {X : Type 0} (f : X → List ℕ) (o : List ℕ) (xs : List X) (i : ℕ) (x : X) (was now : List ℕ) → i < length xs → x ≡ get_or xs i x → was ≡ o ++ flat_map f (take i xs) → now ≡ was ++ f x
    → now ≡ o ++ flat_map f (take (i + 1) xs)
one_more {X} f o xs i x was now lt here before put =
    let more : take (i + 1) xs ≡ take i xs ++ x ∷ [] = take_more xs i x lt ∙ ap (λ (z : X). take i xs ++ z ∷ []) (sym here) in
    put ∙ ap (λ l. l ++ f x) before ∙ flat_map_more f o (take i xs) x ∙ ap (λ l. o ++ flat_map f l) (sym more)

pub all_put : {X : Type 0} (f : X → List ℕ) (o : List ℕ) (xs : List X) (i : ℕ) (now : List ℕ) → length xs ≤ i → now ≡ o ++ flat_map f (take i xs) → now ≡ o ++ flat_map f xs
all_put {X} f o xs i now le before = before ∙ ap (λ (l : List X). o ++ flat_map f l) (take_all i xs le)
