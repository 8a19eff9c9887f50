-- What clap makes of the words of each command.
use Rattle.std.proofs.Common.{◌≡◌, ◌++◌, true, false, List, [], ◌∷◌, Option, Some, None, refl, codes}
use Rattle.std.specs.Str.{bytes_eq}
use Rattle.clap.specs.Lexer.{strip_byte}
use Rattle.clap.specs.Walk.{Text}
use Rattle.clap.specs.Words.{takes}
use Rattle.clap.proofs.OnLiterals.{clap_on_literals}
use Rattle.command_words.specs.Reading.{Texts, commands, texts_of}

-- clap takes the words, and reads these texts from them
pub record Reads (words : List Text) (texts : Texts) : Type 0 where
  pub taken : takes commands (codes "pbs" ∷ words) ≡ true
  pub found : texts_of words ≡ Some texts

-- clap takes the word for no flag
pub record IsPlain (word : Text) : Type 0 where
  pub trail : bytes_eq word (45 ∷ 45 ∷ []) ≡ false
  pub flag : strip_byte 45 word ≡ None

abbrev pub no_texts : Texts
no_texts = record { nodes = None; member = None; number = None; members = None; pairings = None; lines = None }

pub check_form : Reads (codes "check" ∷ []) no_texts
unfolding clap_on_literals
check_form = record { taken = refl; found = refl }

pub award_form : Reads (codes "award" ∷ []) no_texts
unfolding clap_on_literals
award_form = record { taken = refl; found = refl }

pub award_one : (n : Text) → Reads (codes "award" ∷ (codes "--nodes=" ++ n) ∷ []) (record no_texts { nodes = Some n })
unfolding clap_on_literals
award_one n = record { taken = refl; found = refl }

pub award_two : (n : Text) → IsPlain n → Reads (codes "award" ∷ codes "--nodes" ∷ n ∷ []) (record no_texts { nodes = Some n })
unfolding clap_on_literals
award_two n p = record { taken = simp (p.trail, p.flag) refl; found = simp (p.trail, p.flag) refl }

pub show_form : (name : Text) → IsPlain name → Reads (codes "show" ∷ name ∷ []) (record no_texts { member = Some name })
unfolding clap_on_literals
show_form name p = record { taken = simp (p.trail, p.flag) refl; found = simp (p.trail, p.flag) refl }

pub migrate_form : Reads (codes "migrate" ∷ []) no_texts
unfolding clap_on_literals
migrate_form = record { taken = refl; found = refl }

pub trade_form : Reads (codes "trade" ∷ []) no_texts
unfolding clap_on_literals
trade_form = record { taken = refl; found = refl }

pub calendar_form : (name : Text) → IsPlain name → Reads (codes "calendar" ∷ name ∷ []) (record no_texts { member = Some name })
unfolding clap_on_literals
calendar_form name p = record { taken = simp (p.trail, p.flag) refl; found = simp (p.trail, p.flag) refl }

abbrev pub sized : Text → Text → Text → Option Text → Texts
sized a b c option = record { nodes = option; member = None; number = Some a; members = Some b; pairings = Some c; lines = None }

pub make_form : (a b c : Text) → IsPlain a → IsPlain b → IsPlain c → Reads (codes "make" ∷ a ∷ b ∷ c ∷ []) (sized a b c None)
unfolding clap_on_literals
make_form a b c p q r = record {
  taken = simp (p.trail, p.flag) (simp (q.trail, q.flag) (rw (r.trail, r.flag, r.flag) refl));
  found = simp (p.trail, p.flag) (simp (q.trail, q.flag) (rw (r.trail, r.flag, r.flag) refl));
}

pub trial_form : (a b c : Text) → IsPlain a → IsPlain b → IsPlain c → Reads (codes "trial" ∷ a ∷ b ∷ c ∷ []) (sized a b c None)
unfolding clap_on_literals
trial_form a b c p q r = record {
  taken = simp (p.trail, p.flag) (simp (q.trail, q.flag) (rw (r.trail, r.flag, r.flag) refl));
  found = simp (p.trail, p.flag) (simp (q.trail, q.flag) (rw (r.trail, r.flag, r.flag) refl));
}

pub two_first : (a b c n : Text) → IsPlain a → IsPlain b → IsPlain c → IsPlain n → Reads (codes "trial" ∷ codes "--nodes" ∷ n ∷ a ∷ b ∷ c ∷ []) (sized a b c (Some n))
unfolding clap_on_literals
two_first a b c n p q r s = record {
  taken = simp (s.trail, s.flag) (simp (p.trail, p.flag) (simp (q.trail, q.flag) (rw (r.trail, r.flag, r.flag) refl)));
  found = simp (s.trail, s.flag) (simp (p.trail, p.flag) (simp (q.trail, q.flag) (rw (r.trail, r.flag, r.flag) refl)));
}

pub one_first : (a b c n : Text) → IsPlain a → IsPlain b → IsPlain c → Reads (codes "trial" ∷ (codes "--nodes=" ++ n) ∷ a ∷ b ∷ c ∷ []) (sized a b c (Some n))
unfolding clap_on_literals
one_first a b c n p q r = record {
  taken = simp (p.trail, p.flag) (simp (q.trail, q.flag) (rw (r.trail, r.flag, r.flag) refl));
  found = simp (p.trail, p.flag) (simp (q.trail, q.flag) (rw (r.trail, r.flag, r.flag) refl));
}

pub two_second : (a b c n : Text) → IsPlain a → IsPlain b → IsPlain c → IsPlain n → Reads (codes "trial" ∷ a ∷ codes "--nodes" ∷ n ∷ b ∷ c ∷ []) (sized a b c (Some n))
unfolding clap_on_literals
two_second a b c n p q r s = record {
  taken = simp (p.trail, p.flag) (simp (s.trail, s.flag) (simp (q.trail, q.flag) (rw (r.trail, r.flag, r.flag) refl)));
  found = simp (p.trail, p.flag) (simp (s.trail, s.flag) (simp (q.trail, q.flag) (rw (r.trail, r.flag, r.flag) refl)));
}

pub one_second : (a b c n : Text) → IsPlain a → IsPlain b → IsPlain c → Reads (codes "trial" ∷ a ∷ (codes "--nodes=" ++ n) ∷ b ∷ c ∷ []) (sized a b c (Some n))
unfolding clap_on_literals
one_second a b c n p q r = record {
  taken = simp (p.trail, p.flag) (simp (q.trail, q.flag) (rw (r.trail, r.flag, r.flag) refl));
  found = simp (p.trail, p.flag) (simp (q.trail, q.flag) (rw (r.trail, r.flag, r.flag) refl));
}

pub two_third : (a b c n : Text) → IsPlain a → IsPlain b → IsPlain c → IsPlain n → Reads (codes "trial" ∷ a ∷ b ∷ codes "--nodes" ∷ n ∷ c ∷ []) (sized a b c (Some n))
unfolding clap_on_literals
two_third a b c n p q r s = record {
  taken = simp (p.trail, p.flag) (simp (q.trail, q.flag) (simp (s.trail, s.flag) (rw (r.trail, r.flag, r.flag) refl)));
  found = simp (p.trail, p.flag) (simp (q.trail, q.flag) (simp (s.trail, s.flag) (rw (r.trail, r.flag, r.flag) refl)));
}

pub one_third : (a b c n : Text) → IsPlain a → IsPlain b → IsPlain c → Reads (codes "trial" ∷ a ∷ b ∷ (codes "--nodes=" ++ n) ∷ c ∷ []) (sized a b c (Some n))
unfolding clap_on_literals
one_third a b c n p q r = record {
  taken = simp (p.trail, p.flag) (simp (q.trail, q.flag) (rw (r.trail, r.flag, r.flag) refl));
  found = simp (p.trail, p.flag) (simp (q.trail, q.flag) (rw (r.trail, r.flag, r.flag) refl));
}

pub two_last : (a b c n : Text) → IsPlain a → IsPlain b → IsPlain c → IsPlain n → Reads (codes "trial" ∷ a ∷ b ∷ c ∷ codes "--nodes" ∷ n ∷ []) (sized a b c (Some n))
unfolding clap_on_literals
two_last a b c n p q r s = record {
  taken = simp (p.trail, p.flag) (simp (q.trail, q.flag) (simp (r.trail, r.flag) (rw (s.trail, s.flag, s.flag) refl)));
  found = simp (p.trail, p.flag) (simp (q.trail, q.flag) (simp (r.trail, r.flag) (rw (s.trail, s.flag, s.flag) refl)));
}

pub one_last : (a b c n : Text) → IsPlain a → IsPlain b → IsPlain c → Reads (codes "trial" ∷ a ∷ b ∷ c ∷ (codes "--nodes=" ++ n) ∷ []) (sized a b c (Some n))
unfolding clap_on_literals
one_last a b c n p q r = record {
  taken = simp (p.trail, p.flag) (simp (q.trail, q.flag) (rw (r.trail, r.flag, r.flag) refl));
  found = simp (p.trail, p.flag) (simp (q.trail, q.flag) (rw (r.trail, r.flag, r.flag) refl));
}

-- ---- a command with one argument and the option

abbrev pub asking : Text → Option Text → Texts
asking name option = record no_texts { nodes = option; member = Some name }

-- how clap reads the words of the command with this first word
pub record ReadsOne (word : Text) (texts : Text → Option Text → Texts) : Type 0 where
  pub alone : (a : Text) → IsPlain a → Reads (word ∷ a ∷ []) (texts a None)
  pub two_first : (a n : Text) → IsPlain a → IsPlain n → Reads (word ∷ codes "--nodes" ∷ n ∷ a ∷ []) (texts a (Some n))
  pub two_last : (a n : Text) → IsPlain a → IsPlain n → Reads (word ∷ a ∷ codes "--nodes" ∷ n ∷ []) (texts a (Some n))
  pub one_first : (a n : Text) → IsPlain a → Reads (word ∷ (codes "--nodes=" ++ n) ∷ a ∷ []) (texts a (Some n))
  pub one_last : (a n : Text) → IsPlain a → Reads (word ∷ a ∷ (codes "--nodes=" ++ n) ∷ []) (texts a (Some n))

pub whatif_forms : ReadsOne (codes "whatif") asking
unfolding clap_on_literals
whatif_forms = record {
  alone = λ a p. record { taken = simp (p.trail, p.flag) refl; found = simp (p.trail, p.flag) refl };
  two_first = λ a n p s. record {
    taken = simp (s.trail, s.flag) (simp (p.trail, p.flag) refl);
    found = simp (s.trail, s.flag) (simp (p.trail, p.flag) refl);
  };
  two_last = λ a n p s. record {
    taken = simp (p.trail, p.flag) (simp (s.trail, s.flag) refl);
    found = simp (p.trail, p.flag) (simp (s.trail, s.flag) refl);
  };
  one_first = λ a n p. record { taken = simp (p.trail, p.flag) refl; found = simp (p.trail, p.flag) refl };
  one_last = λ a n p. record { taken = simp (p.trail, p.flag) refl; found = simp (p.trail, p.flag) refl };
}

-- ---- the commands with a number of vacant lines

abbrev pub lining : Text → Option Text → Texts
lining number option = record no_texts { nodes = option; lines = Some number }

pub open_forms : ReadsOne (codes "open") lining
unfolding clap_on_literals
open_forms = record {
  alone = λ a p. record { taken = simp (p.trail, p.flag) refl; found = simp (p.trail, p.flag) refl };
  two_first = λ a n p s. record {
    taken = simp (s.trail, s.flag) (simp (p.trail, p.flag) refl);
    found = simp (s.trail, s.flag) (simp (p.trail, p.flag) refl);
  };
  two_last = λ a n p s. record {
    taken = simp (p.trail, p.flag) (simp (s.trail, s.flag) refl);
    found = simp (p.trail, p.flag) (simp (s.trail, s.flag) refl);
  };
  one_first = λ a n p. record { taken = simp (p.trail, p.flag) refl; found = simp (p.trail, p.flag) refl };
  one_last = λ a n p. record { taken = simp (p.trail, p.flag) refl; found = simp (p.trail, p.flag) refl };
}

pub opencheck_form : (number : Text) → IsPlain number → Reads (codes "opencheck" ∷ number ∷ []) (lining number None)
unfolding clap_on_literals
opencheck_form number p = record { taken = simp (p.trail, p.flag) refl; found = simp (p.trail, p.flag) refl }
