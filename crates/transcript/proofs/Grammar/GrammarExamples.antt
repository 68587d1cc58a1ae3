-- Lines that have the grammar, each shown part by part.
use Rattle.std.proofs.Common.{◌<◌, true, false, [], ◌∷◌, codes, refl, lit≤}
use Rattle.std.specs.Fmt.{digits}
use Rattle.std.proofs.lemmas.List.Elements.{All-cons, All-nil}
use Rattle.wire_core.specs.Numbers.{number}
use Rattle.hex.specs.Hex.{encode_with}
use Rattle.radius_packet.specs.declared.reasons.Via.TheVariants.{Auth}
use Rattle.agent_events.specs.declared.events.Input.TheVariants.{Datagram, Ready}
use Rattle.transcript.specs.Grammar.{IsControl, IsEvent, IsLine, Lacks, Says, SaysControl}
use Rattle.transcript.specs.Reading.{At}
use Rattle.transcript.specs.declared.happening.Happening.TheVariants.{Input, Link}
use Rattle.transcript.specs.declared.line.Line.TheVariants as line
use Rattle.transcript.specs.declared.position.Section.TheVariants.{Settings, Events}
use Rattle.transcript.proofs.Grammar.GrammarJoinLemmas.{any-lacks}

ready-line : IsLine (codes "0 ready") (codes "0" ∷ codes "ready" ∷ [])
ready-line = record {
  some = lit≤ tt;
  spaceless = All-cons (Lacks 32) (codes "0") (codes "ready" ∷ []) (any-lacks 32 (codes "0") refl)
      (All-cons (Lacks 32) (codes "ready") [] (any-lacks 32 (codes "ready") refl) (All-nil (Lacks 32)));
  spelled = refl;
}

ready-event : IsEvent (codes "0" ∷ codes "ready" ∷ []) 0 (Input Ready)
unfolding digits
ready-event = record {
  word = codes "0";
  behind = codes "ready" ∷ [];
  spelled = refl;
  is_moment = (refl, lit≤ tt);
  is_told = refl;
}

behind-agent : At
behind-agent = record { controls = false; section = Settings; addresses = []; stream = []; lines = 1 }

-- the second line of a transcript without clients
ready-says : Says behind-agent (codes "0 ready") (line.Event 2 0 (Ready ∷ []))
    (record behind-agent { section = Events; lines = 2 })
unfolding behind-agent
ready-says = record {
  short = lit≤ tt;
  words = codes "0" ∷ codes "ready" ∷ [];
  is_line = ready-line;
  says = record { further = λ e. cc; told = Input Ready; is = ready-event; counts = refl; gives = refl; goes_on = refl };
}

link-event : IsEvent (codes "1100" ∷ codes "link" ∷ codes "0100aB" ∷ []) 1100 (Link (1 ∷ 0 ∷ 171 ∷ []))
unfolding digits encode_with
link-event = record {
  word = codes "1100";
  behind = codes "link" ∷ codes "0100aB" ∷ [];
  spelled = refl;
  is_moment = (refl, lit≤ tt);
  is_told = (
    codes "0100aB",
    refl,
    (
      All-cons (λ x. x < 256) 1 (0 ∷ 171 ∷ []) (lit≤ tt)
          (All-cons (λ x. x < 256) 0 (171 ∷ []) (lit≤ tt) (All-cons (λ x. x < 256) 171 [] (lit≤ tt) (All-nil (λ x. x < 256)))),
      refl,
    ),
  );
}

auth-event : IsEvent (codes "1000" ∷ codes "auth" ∷ codes "192.168.1.16" ∷ codes "1812" ∷ codes "-" ∷ []) 1000
    (Input (Datagram Auth 3232235792 1812 []))
unfolding digits number
auth-event = record {
  word = codes "1000";
  behind = codes "auth" ∷ codes "192.168.1.16" ∷ codes "1812" ∷ codes "-" ∷ [];
  spelled = refl;
  is_moment = (refl, lit≤ tt);
  is_told = record {
    address_word = codes "192.168.1.16";
    port_word = codes "1812";
    hex = codes "-";
    spelled = refl;
    is_address = (
      192 ∷ 168 ∷ 1 ∷ 16 ∷ [],
      record { a = 192; b = 168; c = 1; d = 16; fit = (lit≤ tt, lit≤ tt, lit≤ tt, lit≤ tt); value = refl; spelled = refl },
      refl,
    );
    is_port = (refl, lit≤ tt);
    is_hex = refl;
  };
}

control-words : IsControl (codes "1000" ∷ codes "control" ∷ codes "192.168.1.16" ∷ codes "3799" ∷ codes "-" ∷ [])
    (record { moment = 1000; address = 3232235792; port = 3799; octets = [] })
unfolding digits number
control-words = record {
  moment = codes "1000";
  address = codes "192.168.1.16";
  port = codes "3799";
  hex = codes "-";
  spelled = refl;
  is_moment = (refl, lit≤ tt);
  is_address = (
    192 ∷ 168 ∷ 1 ∷ 16 ∷ [],
    record { a = 192; b = 168; c = 1; d = 16; fit = (lit≤ tt, lit≤ tt, lit≤ tt, lit≤ tt); value = refl; spelled = refl },
    refl,
  );
  is_port = (refl, lit≤ tt);
  is_hex = refl;
}

-- the second line of a transcript in which control lines may stand
control-says : SaysControl (record behind-agent { controls = true })
    (codes "1000" ∷ codes "control" ∷ codes "192.168.1.16" ∷ codes "3799" ∷ codes "-" ∷ []) 2
    (record { moment = 1000; address = 3232235792; port = 3799; octets = [] })
    (record behind-agent { controls = true; section = Events; lines = 2 })
unfolding behind-agent
control-says = record { may_stand = refl; further = λ e. cc; is = control-words; counts = refl; goes_on = refl }
