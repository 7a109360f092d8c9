mod ResultLaws
