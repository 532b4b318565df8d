pub mod RekeyLemmas
