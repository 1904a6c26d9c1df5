mod ShowingLaws
