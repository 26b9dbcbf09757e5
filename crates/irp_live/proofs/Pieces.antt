-- Texts put one behind another.
use Rattle.std.proofs.Common.{◌≡◌, ℕ, List, ◌++◌, Result, Ok, Err, OnOk, ap, ◌∙◌, append_assoc}

-- a text and the one behind it
two : (old mid new one other : List ℕ) → mid ≡ old ++ one → new ≡ mid ++ other → new ≡ old ++ (one ++ other)
two old mid new one other first second = second ∙ ap (λ text. text ++ other) first ∙ append_assoc old one other

-- eight of them
pub eight : (old m1 m2 m3 m4 m5 m6 m7 new a b c d e f g h : List ℕ) → m1 ≡ old ++ a → m2 ≡ m1 ++ b → m3 ≡ m2 ++ c → m4 ≡ m3 ++ d
    → m5 ≡ m4 ++ e → m6 ≡ m5 ++ f → m7 ≡ m6 ++ g → new ≡ m7 ++ h → new ≡ old ++ (a ++ (b ++ (c ++ (d ++ (e ++ (f ++ (g ++ h)))))))
eight old m1 m2 m3 m4 m5 m6 m7 new a b c d e f g h p1 p2 p3 p4 p5 p6 p7 p8 =
    two old m1 new a (b ++ (c ++ (d ++ (e ++ (f ++ (g ++ h)))))) p1
    (two m1 m2 new b (c ++ (d ++ (e ++ (f ++ (g ++ h))))) p2
    (two m2 m3 new c (d ++ (e ++ (f ++ (g ++ h)))) p3
    (two m3 m4 new d (e ++ (f ++ (g ++ h))) p4
    (two m4 m5 new e (f ++ (g ++ h)) p5
    (two m5 m6 new f (g ++ h) p6
    (two m6 m7 new g h p7 p8))))))

-- what follows of an answer without error
pub on_ok : {T E : Type 0} (P Q : Type 0) (result : Result T E) → (P → Q) → OnOk result P → OnOk result Q
on_ok P Q (Ok value) step holds = step holds
on_ok P Q (Err error) step holds = tt
