-- The examples of packets.
use Rattle.std.proofs.Common.{◌≡◌, ℕ, ◌+◌, ◌-◌, ◌*◌, ◌^◌, ◌≤◌, Bool, true, false, ◌||◌, eqb, List, [], ◌∷◌, ◌++◌, length, get_or, replicate, codes, sym, refl, ap, ◌∙◌, subst, inr, arith, lit<, lit≤}
use Rattle.std.proofs.lemmas.List.{length-append, length-replicate}
use Rattle.std.proofs.lemmas.Bool.{false≢true}
use Rattle.fields.specs.Fields.{IntegerField}
use Rattle.fields.specs.Forms.{Paired, below, paired}
use Rattle.fields.specs.Ranges.{between}
use Rattle.digits.proofs.Fronts.{pow10_le, spaces_replicate}
use Rattle.fields.specs.Tests.{each_between, paired_decides}
use Rattle.packet.specs.Letters.{Letter, accepted, rejected, sequenced, heartbeat, explained, directory, code}
use Rattle.packet.specs.Layouts.{PrintableTo, field}
use Rattle.packet.specs.declared.packets.Packet.TheVariants.{LoginAccepted}
use Rattle.facts.specs.PacketSamples.{PacketSamples}

-- bytes that a test finds printable
printable : (bs : List ℕ) → below (λ i. between 32 126 (get_or bs i 0)) (length bs) ≡ true → PrintableTo bs (length bs)
printable bs = (each_between 32 126 (length bs) (λ i. get_or bs i 0)).0

-- codes of letters, as a test
known : ℕ → Bool
known c = eqb c 65 || (eqb c 74 || (eqb c 83 || (eqb c 72 || (eqb c 69 || eqb c 82))))

known_code : (l : Letter) → known (code l) ≡ true
unfolding known
known_code accepted = refl
known_code rejected = refl
known_code sequenced = refl
known_code heartbeat = refl
known_code explained = refl
known_code directory = refl

unknown : (c : ℕ) → known c ≡ false → (l : Letter) → c ≡ code l → ⊥
unknown c f l e = false≢true (sym f ∙ ap known e ∙ known_code l)

-- one digit behind spaces
digit_field : (w gap d : ℕ) → w ≡ gap + 1 → w ≤ 18 → 48 ≤ d → d ≤ 57 → IntegerField w (replicate gap 32 ++ d ∷ []) (0 * 10 + (d - 48))
digit_field w gap d e m a b =
    let long : length (replicate gap 32 ++ d ∷ []) ≡ w = length-append (replicate gap 32) (d ∷ []) ∙ omega (arith, length-replicate {A = ℕ} gap 32) in
    let ten : 10 ^ 1 ≤ 10 ^ w = pow10_le 1 w (omega arith) in (
      long,
      record {
        gap = replicate gap 32;
        figures = d ∷ [];
        form = refl;
        gap_spaces = spaces_replicate gap;
        figures_digits = ((a, b), tt);
        figures_some = omega arith;
        count = refl;
      },
      (omega arith, m, omega arith),
    )

pub packet_samples : PacketSamples
unfolding paired known
packet_samples = record {
  login =
      let f = digit_field 10 9 49 refl (lit≤ tt) (lit≤ tt) (lit≤ tt) in
      (LoginAccepted (record { value = 1; ok = f.2 }), record { fits = lit≤ tt; printable = printable (codes "A         1") refl; letter = refl; row = (refl, f) });
  short_login = (lit≤ tt, printable (codes "A        1") refl, (accepted, refl, λ e. omega arith));
  end = record { fits = lit≤ tt; printable = printable (codes "S") refl; letter = refl; row = refl };
  heartbeat = record { fits = lit≤ tt; printable = printable (codes "H") refl; letter = refl; row = refl };
  nothing = (lit≤ tt, printable [] refl, unknown 0 refl);
  no_letter = (lit≤ tt, printable (codes "Q") refl, unknown 81 refl);
  bad_pair =
      let bs = codes "R   2EUR/USDusd/JPY" in (
        lit≤ tt,
        printable bs refl,
        (
          directory,
          refl,
          inr (
            2,
            1,
            refl,
            digit_field 4 3 50 refl (lit≤ tt) (lit≤ tt) (lit≤ tt),
            refl,
            lit< tt,
            λ h. false≢true ((paired_decides (field 12 7 bs)).1 h),
            λ j l. let e : 0 ≡ j = omega arith in subst (λ k. Paired (field (5 + 7 * k) 7 bs)) e ((paired_decides (field 5 7 bs)).0 refl),
          ),
        ),
      );
}
