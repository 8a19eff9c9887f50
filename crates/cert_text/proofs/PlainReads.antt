-- What is read in a version can be said in it.
use Rattle.std.proofs.Common.{◌≡◌, ℕ, zero, suc, Bool, true, false, not, ◌&&◌, List, [], ◌∷◌, Option, Some, None, refl, ap, subst}
use Rattle.std.specs.Prelude.{◌||◌, nat_lt, codes, Ok}
use Rattle.std.specs.List.{list_all}
use Rattle.roster_model.specs.declared.proof.Item.{Item}
use Rattle.roster_model.specs.declared.proof.Item.TheVariants.{Split, Count, Fixed, NoLine, Weights}
use Rattle.roster_model.specs.declared.proof.Lens.{Lens}
use Rattle.roster_model.specs.declared.award.Shown.{Shown}
use Rattle.roster_model.specs.declared.award.Certificate.{Certificate}
use Rattle.roster_model.specs.declared.award.Certificate.TheVariants.{Award, NoRoster}
use Rattle.cert_text.specs.declared.limits.TheConstants.{MOST_ITEMS}
use Rattle.cert_text.specs.declared.fault.CertCode.TheVariants as code
use Rattle.cert_text.specs.declared.version.Version.{Version}
use Rattle.cert_text.specs.declared.version.Version.TheVariants.{One, Two, Three}
use Rattle.cert_text.specs.Fields.{kept, index}
use Rattle.cert_text.specs.Lines.{◌>>=◌, Rest, Reader, done, wrong, next, says}
use Rattle.cert_text.specs.Forms as form
use Rattle.cert_text.specs.Reading.{several, owing, line_with, lens_line, split, count, fixed, no_line, weights, item_of, item, full_proof, proof, row, shown_proof, roster_of, shown, award, bare, no_roster, body_of, body}
use Rattle.cert_text.specs.Limits.{is_plain_lens, is_plain_item, is_plain_proof, is_plain_shown_proof, is_plain_shown, is_plain_certificate, is_three, is_sayable}
use Rattle.cert_text.proofs.Numerals.{both}
use Rattle.cert_text.proofs.InVersion.{says_in}
use Rattle.cert_text.proofs.Values.{pair_ok}
use Rattle.cert_text.proofs.LineLaws.{ok_is, then_ok, says_ok}
use Rattle.cert_text.proofs.FormLaws.{lens_takes, IsSomeOf, award_takes, shown_takes}
use Rattle.cert_text.proofs.ReadLaws.{by_word}
use Rattle.cert_text.proofs.Owing.{owing_all, owing_some}
use Rattle.cert_text.proofs.NumberedLaws.{numbered_proof_suits}

-- whatever the reader gives is so
abbrev GivesSo : {A : Type 0} → Reader A → (A → Bool) → Type 0
GivesSo {A} read so = (rest : Rest) (x : A) (after : Rest) → read rest ≡ Ok (x, after) → so x ≡ true

so-several : {A : Type 0} (one : Reader A) (so : A → Bool) → GivesSo one so → (n : ℕ) → GivesSo (several one n) (list_all so)
so-several {A} one so h zero rest xs after e = let g = ok_is [] xs rest after e in subst (λ (ys : List A). list_all so ys ≡ true) g.0 refl
so-several {A} one so h (suc n) rest xs after e =
    let a = then_ok one (λ x. several one n >>= λ ys. done (x ∷ ys)) rest xs after e in
    let b = then_ok (several one n) (λ ys. done (a.0 ∷ ys)) a.1 xs after a.3 in
    let g = ok_is (a.0 ∷ b.0) xs b.1 after b.3 in
    let first = h rest a.0 a.1 a.2 in
    let others = so-several one so h n a.1 b.0 b.1 b.2 in
    subst (λ (ys : List A). list_all so ys ≡ true) g.0 (rw first others)

so-lens : GivesSo lens_line is_plain_lens
unfolding lens_line
so-lens rest x after e =
    let a = then_ok (line_with (codes "lens")) _ rest x after e in
    let s = says_ok a.0.number (form.lens false a.0.words) a.1 x after a.3 in
    ap not (lens_takes false a.0.words x s.0).2

so-member : (ws : List (List ℕ)) (x : ℕ × Lens) → form.member_lens ws ≡ Ok x → is_plain_lens x.1 ≡ true
unfolding form.member_lens
so-member [] x e = absurd cc
so-member (w ∷ ws) x e = let p = pair_ok (index w) (form.lens false ws) x e in ap not (lens_takes false ws x.1 p.1).2

-- ---- items

so-split : (n : ℕ) (b : Bool) (ws : List (List ℕ)) → GivesSo (split n b ws) is_plain_item
unfolding split
so-split n b ws rest x after e =
    let a = then_ok (says n (kept b (form.places ws))) _ rest x after e in
    let g = ok_is (Split a.0.0 a.0.1) x a.1 after a.3 in
    subst (λ (y : Item). is_plain_item y ≡ true) g.0 refl

so-count : (n : ℕ) (b : Bool) (ws : List (List ℕ)) → GivesSo (count n b ws) is_plain_item
unfolding count
so-count n b ws rest x after e =
    let a = then_ok (says n (kept b (form.place ws))) _ rest x after e in
    let g = ok_is (Count a.0) x a.1 after a.3 in
    subst (λ (y : Item). is_plain_item y ≡ true) g.0 refl

so-fixed : (n : ℕ) (b : Bool) (ws : List (List ℕ)) → GivesSo (fixed n b ws) is_plain_item
unfolding fixed
so-fixed n b ws rest x after e =
    let a = then_ok (says n (kept b (form.place ws))) _ rest x after e in
    let g = ok_is (Fixed a.0) x a.1 after a.3 in
    subst (λ (y : Item). is_plain_item y ≡ true) g.0 refl

so-no_line : (n : ℕ) (ws : List (List ℕ)) → GivesSo (no_line n ws) is_plain_item
unfolding no_line
so-no_line n ws rest x after e =
    let a = then_ok (says n (form.member_lens ws)) _ rest x after e in
    let s = says_ok n (form.member_lens ws) rest a.0 a.1 a.2 in
    let g = ok_is (NoLine a.0.0 a.0.1) x a.1 after a.3 in
    subst (λ (y : Item). is_plain_item y ≡ true) g.0 (so-member ws a.0 s.0)

so-weights : (n : ℕ) (ws : List (List ℕ)) → GivesSo (weights n ws) is_plain_item
unfolding weights
so-weights n ws rest x after e =
    let a = then_ok (says n (form.weights ws)) _ rest x after e in
    let b = then_ok (several lens_line a.0.0) (λ ls. done (Weights a.0.1 ls)) a.1 x after a.3 in
    let g = ok_is (Weights a.0.1 b.0) x b.1 after b.3 in
    subst (λ (y : Item). is_plain_item y ≡ true) g.0 (so-several lens_line is_plain_lens so-lens a.0.0 a.1 b.0 b.1 b.2)

so-item_of : (n : ℕ) (words : List (List ℕ)) → GivesSo (item_of n words) is_plain_item
so-item_of n [] rest x after e = absurd cc
so-item_of n (w ∷ ws) rest x after e =
    by_word w (codes "split") (split n true ws) _ rest x after (is_plain_item x ≡ true) (λ h e. so-split n true ws rest x after e)
    (λ e.
    by_word w (codes "count") (count n true ws) _ rest x after (is_plain_item x ≡ true) (λ h e. so-count n true ws rest x after e)
    (λ e.
    by_word w (codes "fixed") (fixed n true ws) _ rest x after (is_plain_item x ≡ true) (λ h e. so-fixed n true ws rest x after e)
    (λ e.
    by_word w (codes "noline") (no_line n ws) _ rest x after (is_plain_item x ≡ true) (λ h e. so-no_line n ws rest x after e)
    (λ e.
    by_word w (codes "weights") (weights n ws) (wrong n code.Word) rest x after (is_plain_item x ≡ true) (λ h e. so-weights n ws rest x after e)
    (λ e. absurd cc) e) e) e) e)
    e

so-item : GivesSo item is_plain_item
unfolding item
so-item rest x after e =
    let a = then_ok next (λ l. item_of l.number l.words) rest x after e in
    so-item_of a.0.number a.0.words a.1 x after a.3

-- ---- proofs

so-full_proof : GivesSo full_proof is_plain_proof
unfolding full_proof
so-full_proof rest x after e =
    let a = then_ok (line_with (codes "proof")) _ rest x after e in
    let b = then_ok (says a.0.number (form.count MOST_ITEMS a.0.words)) (λ n. several item n) a.1 x after a.3 in
    so-several item is_plain_item so-item b.0 b.1 x after b.3

so-proof : (v : Version) (must : Bool) → GivesSo (proof v must) (says_in v must is_plain_proof)
so-proof One must rest x after e = so-full_proof rest x after e
so-proof Two must rest x after e =
    let s = numbered_proof_suits (record { may = false; must = false }) rest x after e in
    (both (is_plain_proof x) _ s).0
so-proof Three must rest x after e =
    let s = numbered_proof_suits (record { may = true; must = must }) rest x after e in
    (both true (not must || not (is_plain_proof x)) s).1

proof_shown : (v : Version) (must : Bool) (p : List Item) → says_in v must is_plain_proof p ≡ true → says_in v must is_plain_shown_proof (Some p) ≡ true
proof_shown One must p h = h
proof_shown Two must p h = h
proof_shown Three must p h = h

none_shown : (v : Version) (must : Bool) → (not (is_three v && must) || false) ≡ true → says_in v must is_plain_shown_proof None ≡ true
none_shown One must h = refl
none_shown Two must h = refl
none_shown Three true h = absurd cc
none_shown Three false h = refl

so-shown_proof : (v : Version) (must b : Bool) → (not (is_three v && must) || b) ≡ true → GivesSo (shown_proof v must b) (says_in v must is_plain_shown_proof)
unfolding shown_proof
so-shown_proof v must true h rest x after e =
    let a = then_ok (proof v must) (λ q. done (Some q)) rest x after e in
    let g = ok_is (Some a.0) x a.1 after a.3 in
    subst (λ (y : Option (List Item)). says_in v must is_plain_shown_proof y ≡ true) g.0 (proof_shown v must a.0 (so-proof v must rest a.0 a.1 a.2))
so-shown_proof v must false h rest x after e =
    let g = ok_is None x rest after e in
    subst (λ (y : Option (List Item)). says_in v must is_plain_shown_proof y ≡ true) g.0 (none_shown v must h)

part_shown : (v : Version) (must : Bool) (x : Shown) → says_in v must is_plain_shown_proof x.proof ≡ true → says_in v must is_plain_shown x ≡ true
part_shown One must x h = h
part_shown Two must x h = h
part_shown Three must x h = h

so-shown : (v : Version) (must : Bool) → GivesSo (shown v must) (says_in v must is_plain_shown)
unfolding shown
so-shown v must rest x after e =
    let a = then_ok (line_with (codes "shown")) _ rest x after e in
    let b = then_ok (says a.0.number (form.shown (is_three v && must) a.0.words)) _ a.1 x after a.3 in
    let p = then_ok (shown_proof v must b.0.0) _ b.1 x after b.3 in
    let r = then_ok (several row b.0.1) (λ rs. done (record { proof = p.0; roster = roster_of rs })) p.1 x after p.3 in
    let g = ok_is (record { proof = p.0; roster = roster_of r.0 }) x r.1 after r.3 in
    let s = says_ok a.0.number (form.shown (is_three v && must) a.0.words) a.1 b.0 b.1 b.2 in
    let f = shown_takes (is_three v && must) a.0.words b.0 s.0 in
    subst (λ (y : Shown). says_in v must is_plain_shown y ≡ true) g.0
    (part_shown v must (record { proof = p.0; roster = roster_of r.0 }) (so-shown_proof v must b.0.0 f.2 b.1 p.0 p.1 p.2))

-- ---- certificates

or_turned : (a b : Bool) → (a || b) ≡ true → (b || a) ≡ true
or_turned true true h = refl
or_turned true false h = refl
or_turned false true h = refl
or_turned false false h = absurd cc

pays_on : (p d : Bool) → (d || not p) ≡ true → (not p || (false || d)) ≡ true
pays_on false d h = refl
pays_on true true h = refl
pays_on true false h = absurd cc

one_whole : (p s : Bool) → (not p || (false || not s)) ≡ true → not (p && s) ≡ true
one_whole false s h = refl
one_whole true s h = h

parts_told : (v : Version) (x : ℕ × ℕ) (rest mid end : Rest) (ps : List (List Item)) (ss : List Shown) → IsSomeOf (is_three v) x
    → owing (proof v) is_plain_proof (is_three v) (nat_lt 0 x.1) x.0 rest ≡ Ok (ps, mid)
    → owing (shown v) is_plain_shown (is_three v && list_all is_plain_proof ps) false x.1 mid ≡ Ok (ss, end)
    → says_in v true is_plain_certificate (Award (record { proofs = ps; shown = ss })) ≡ true
parts_told One x rest mid end ps ss some e f =
    let proofs = owing_all (proof One) is_plain_proof (so-proof One) false (nat_lt 0 x.1) x.0 rest ps mid e in
    let parts = owing_all (shown One) is_plain_shown (so-shown One) false false x.1 mid ss end f in
    rw (proofs, parts) refl
parts_told Two x rest mid end ps ss some e f =
    let proofs = owing_all (proof Two) is_plain_proof (so-proof Two) false (nat_lt 0 x.1) x.0 rest ps mid e in
    let parts = owing_all (shown Two) is_plain_shown (so-shown Two) false false x.1 mid ss end f in
    rw (proofs, parts) refl
parts_told Three x rest mid end ps ss some e f =
    let proofs = owing_some (proof Three) is_plain_proof (so-proof Three) true (nat_lt 0 x.1) x.0 rest ps mid (or_turned (nat_lt 0 x.0) (nat_lt 0 x.1) some) e in
    let parts = owing_some (shown Three) is_plain_shown (so-shown Three) (list_all is_plain_proof ps) false x.1 mid ss end (pays_on (list_all is_plain_proof ps) (nat_lt 0 x.1) proofs) f in
    one_whole (list_all is_plain_proof ps) (list_all is_plain_shown ss) parts

so-award : (v : Version) (n : ℕ) (ws : List (List ℕ)) → GivesSo (award v n ws) (says_in v true is_plain_certificate)
unfolding award
so-award v n ws rest x after e =
    let a = then_ok (says n (form.award (is_three v) ws)) _ rest x after e in
    let p = then_ok (owing (proof v) is_plain_proof (is_three v) (nat_lt 0 a.0.1) a.0.0) _ a.1 x after a.3 in
    let d = then_ok (owing (shown v) is_plain_shown (is_three v && list_all is_plain_proof p.0) false a.0.1) (λ ss. done (Award (record { proofs = p.0; shown = ss }))) p.1 x after p.3 in
    let g = ok_is (Award (record { proofs = p.0; shown = d.0 })) x d.1 after d.3 in
    let s = says_ok n (form.award (is_three v) ws) rest a.0 a.1 a.2 in
    let f = award_takes (is_three v) ws a.0 s.0 in
    subst (λ (y : Certificate). says_in v true is_plain_certificate y ≡ true) g.0 (parts_told v a.0 a.1 p.1 d.1 p.0 d.0 f.3 p.2 d.2)

proof_told : (v : Version) (p : List Item) → says_in v (is_three v) is_plain_proof p ≡ true → says_in v true is_plain_certificate (NoRoster p) ≡ true
proof_told One p h = h
proof_told Two p h = h
proof_told Three p h = h

so-no_roster : (v : Version) (n : ℕ) (ws : List (List ℕ)) → GivesSo (no_roster v n ws) (says_in v true is_plain_certificate)
unfolding no_roster
so-no_roster v n ws rest x after e =
    let a = then_ok (bare n ws) _ rest x after e in
    let p = then_ok (proof v (is_three v)) (λ q. done (NoRoster q)) a.1 x after a.3 in
    let g = ok_is (NoRoster p.0) x p.1 after p.3 in
    subst (λ (y : Certificate). says_in v true is_plain_certificate y ≡ true) g.0 (proof_told v p.0 (so-proof v (is_three v) a.1 p.0 p.1 p.2))

so-body_of : (v : Version) (n : ℕ) (words : List (List ℕ)) → GivesSo (body_of v n words) (says_in v true is_plain_certificate)
so-body_of v n [] rest x after e = absurd cc
so-body_of v n (w ∷ ws) rest x after e =
    by_word w (codes "award") (award v n ws) _ rest x after (says_in v true is_plain_certificate x ≡ true) (λ h e. so-award v n ws rest x after e)
    (λ e.
    by_word w (codes "none") (no_roster v n ws) (wrong n code.Word) rest x after (says_in v true is_plain_certificate x ≡ true) (λ h e. so-no_roster v n ws rest x after e)
    (λ e. absurd cc) e)
    e

told_sayable : (v : Version) (c : Certificate) → says_in v true is_plain_certificate c ≡ true → is_sayable v c ≡ true
told_sayable One c h = h
told_sayable Two c h = h
told_sayable Three c h = h

-- what is read in a version can be said in it
pub body_sayable : (v : Version) → GivesSo (body v) (is_sayable v)
unfolding body
body_sayable v rest x after e =
    let a = then_ok next (λ l. body_of v l.number l.words) rest x after e in
    told_sayable v x (so-body_of v a.0.number a.0.words a.1 x after a.3)
